-- What changes of shared things bring to a place.
use Rattle.std.proofs.Common.{◌≡◌, ℕ, ◌+◌, ◌≤◌, ◌==◌, ◌&&◌, Bool, true, false, cond, List, [], ◌∷◌, ◌++◌, length, drop, slice_set, Option, Some, None, option_map, option_and_then, bytes_eq, refl, sym, ap, subst, ◌∙◌}
use Rattle.std.specs.Prelude.{⊤}
use Rattle.std.specs.FinMap.{get-empty}
use Rattle.std.specs.FinMap as maps
use Rattle.std.proofs.lemmas.Option.{none-some}
use Rattle.psos_table.specs.Table.{at}
use Rattle.psos_table.proofs.Tables.{at-put, at-without}
use Rattle.psos_caps.specs.Capability.{Capability, full}
use Rattle.psos_caps.specs.declared.rights.Rights.{Rights}
use Rattle.psos_text.specs.declared.name.Name.{Name}
use Rattle.psos_words.specs.declared.word.Word.{Word}
use Rattle.psos_words.specs.Words.{word_at}
use Rattle.psos_calls.specs.Language.Names.{name_cmp}
use Rattle.psos_calls.specs.Language.Tests.{if_there}
use Rattle.psos_calls.specs.declared.code_row.CodeRow.{CodeRow}
use Rattle.psos_model.specs.declared.place.Place.{Place}
use Rattle.psos_model.specs.declared.place.Place.TheVariants.{SegWord, DirName, BoxAt, Link, ImplOf}
use Rattle.psos_model.specs.Flat.{Flat, Segment, Object, Directory, Named, named}
use Rattle.psos_model.specs.Flat.Places.{cap_in, cap_at, rep_cap}
use Rattle.psos_model.specs.declared.change.Change.{Change}
use Rattle.psos_model.specs.declared.change.Change.TheVariants.{PutWord, Bind, Unbind, Register, Unregister, Post, Draw, MakeSegment, MakeObject, MakeDirectory, MakeCode, DropSegment, DropObject, DropDirectory, DropCode}
use Rattle.psos_model.specs.Flat.Changes.{changed, changed_all, new_segment, kept_entry, with_entry, without_entry}
use Rattle.psos_model.specs.Answer.Outcomes.{Source}
use Rattle.psos_laws.specs.Landings.{change_puts, changes_put, before_change, before, landed}
use Rattle.psos_laws.proofs.Landings.{Within, by_test, in_set, in_append, in_drop, zeros_none, edited_at, named_put, named_gone, landed_append, landed_within}

-- ---- one row

abbrev pub in_words : ℕ → Option Segment → Option Capability
in_words j o = option_and_then (λ (s : Segment). cap_in (word_at s.words j)) o

abbrev pub in_dir : Name → Option Directory → Option Capability
in_dir m o = option_and_then (λ (d : Directory). option_map (λ (e : Named). e.cap) (named d m)) o

abbrev pub in_box : ℕ → Option (List Word) → Option Capability
in_box i o = option_and_then (λ (box : List Word). cap_in (word_at box i)) o

abbrev pub in_code : Option CodeRow → Option Capability
in_code o = option_and_then (λ (c : CodeRow). cap_in c.link) o

in_word : (b : Bool) (o : Option Segment) (i j : ℕ) (w : Word)
    → Within (in_words j (cond b (option_map (λ (s : Segment). record s { words = slice_set s.words i w }) o) o)) (cond (b && (j == i)) (cap_in w) (in_words j o))
in_word true None i j w c e = absurd (none-some c e)
in_word true (Some s) i j w c e = in_set s.words i j w c e
in_word false o i j w c e = e

pub if_entry : (b : Bool) (e : Named) (o : Option Named) → option_map (λ (e : Named). e.cap) (cond b (Some e) o) ≡ cond b (Some e.cap) (option_map (λ (e : Named). e.cap) o)
if_entry true e o = refl
if_entry false e o = refl

in_entry : (b : Bool) (o : Option Directory) (name m : Name) (en : Named)
    → Within (in_dir m (cond b (option_map (with_entry name en) o) o)) (cond (b && bytes_eq m.bytes name.bytes) (Some en.cap) (in_dir m o))
in_entry true None name m en c e = absurd (none-some c e)
in_entry true (Some d) name m en c e =
    sym (if_entry (bytes_eq m.bytes name.bytes) en (named d m)) ∙ (ap (option_map (λ (e : Named). e.cap)) (sym (named_put d.names name en m)) ∙ e)
in_entry false o name m en c e = e

if_gone : (b : Bool) (o : Option Named) → Within (option_map (λ (e : Named). e.cap) (cond b None o)) (option_map (λ (e : Named). e.cap) o)
if_gone true o c e = absurd (none-some c e)
if_gone false o c e = e

in_dropped : (b : Bool) (o : Option Directory) (name m : Name)
    → Within (in_dir m (cond b (option_map (without_entry name) o) o)) (in_dir m o)
in_dropped true None name m c e = absurd (none-some c e)
in_dropped true (Some d) name m c e = if_gone (bytes_eq m.bytes name.bytes) (named d m) c (ap (option_map (λ (e : Named). e.cap)) (sym (named_gone d.names name m)) ∙ e)
in_dropped false o name m c e = e

in_posted : (b : Bool) (o : Option (List Word)) (i : ℕ) (w : Word)
    → Within (in_box i (cond b (option_map (λ (x : List Word). x ++ (w ∷ [])) o) o)) (cond (b && (i == if_there o 0 (λ box. length box))) (cap_in w) (in_box i o))
in_posted true None i w c e = absurd (none-some c e)
in_posted true (Some x) i w c e = in_append x w i c e
in_posted false o i w c e = e

in_drawn : (q : Bool) (o : Option (List Word)) (i : ℕ) → Within (in_box i (cond q (option_map (drop 1) o) o)) (in_box (cond q (i + 1) i) o)
in_drawn true None i c e = absurd (none-some c e)
in_drawn true (Some x) i c e = ap cap_in (sym (in_drop x i)) ∙ e
in_drawn false o i c e = e

in_made : {X : Type 0} (h : X → Option Capability) (b : Bool) (x : X) (o : Option X) → Within (option_and_then h (cond b (Some x) o)) (cond b (h x) (option_and_then h o))
in_made h true x o c e = e
in_made h false x o c e = e

-- a new thing that has no capability
in_bare : {X : Type 0} (h : X → Option Capability) (b : Bool) (x : X) (o : Option X) → ((c : Capability) → h x ≡ Some c → ⊥) → Within (option_and_then h (cond b (Some x) o)) (option_and_then h o)
in_bare h true x o bare c e = absurd (bare c e)
in_bare h false x o bare c e = e

in_gone : {X : Type 0} (h : X → Option Capability) (b : Bool) (o : Option X) → Within (option_and_then h (cond b None o)) (option_and_then h o)
in_gone h true o c e = absurd (none-some c e)
in_gone h false o c e = e

-- ---- representations

if_rep : (b : Bool) (o : Object) (x : Option Object) (d : Option Directory) → Within (rep_cap (cond b (Some o) x) d) (cond b (Some (full o.rep)) (rep_cap x d))
if_rep true o x d c e = e
if_rep false o x d c e = e

no_rep : (d : Option Directory) (c : Capability) → d ≡ None → rep_cap None d ≡ Some c → ⊥
no_rep None c is e = none-some c e
no_rep (Some d) c is e = none-some d (sym is)

same_rep : (b : Bool) (x : Option Object) (d : Option Directory) (g : Directory → Directory) → ((x : Directory) → (g x).rep ≡ x.rep) → Within (rep_cap x (cond b (option_map g d) d)) (rep_cap x d)
same_rep b (Some o) d g is c e = e
same_rep true None None g is c e = e
same_rep true None (Some d) g is c e = ap (λ r. Some (full r)) (sym (is d)) ∙ e
same_rep false None d g is c e = e

gone_rep : (b : Bool) (x : Option Object) (d : Option Directory) → Within (rep_cap x (cond b None d)) (rep_cap x d)
gone_rep b (Some o) d c e = e
gone_rep true None d c e = absurd (none-some c e)
gone_rep false None d c e = e

new_rep : (x : Option Object) (row : Directory) → x ≡ None → Within (rep_cap x (Some row)) (Some (full row.rep))
new_rep None row is c e = e
new_rep (Some o) row is c e = absurd (none-some o (sym is))

-- ---- one change

-- what a change needs, so that it lays nothing bare: what it makes is new, and an object that goes is no directory
abbrev pub Safe : Flat → Change → Type 0
Safe f (MakeSegment u len guard) = f.next ≤ u
Safe f (MakeObject u o len) = f.next ≤ o.rep
Safe f (MakeDirectory u rep guard) = (f.next ≤ u) × (at f.objects u ≡ None)
Safe f (DropObject u rep) = at f.dirs u ≡ None
Safe f _ = ⊤

no_words : (len : ℕ) (guard : Rights) (j : ℕ) (c : Capability) → cap_in (word_at (new_segment len guard).words j) ≡ Some c → ⊥
no_words len guard j c e = zeros_none len j c e

no_names : (guard : Rights) (rep : ℕ) (m : Name) (c : Capability) → option_map (λ (e : Named). e.cap) (named (record { guard = guard; rep = rep; names = maps.empty }) m) ≡ Some c → ⊥
no_names guard rep m c e = none-some c (sym (ap (option_map (λ (e : Named). e.cap)) (get-empty name_cmp m)) ∙ e)

pub arrives : (f : Flat) (source : Option Source) (ch : Change) → Safe f ch → (p : Place) → Within (cap_at (changed f ch) p) (landed (change_puts f source ch) p (cap_at f (before_change ch p)))
arrives f source (PutWord u i w) safe (SegWord v j) c e =
    in_word (v.0 == u) (at f.segments v.0) i j w c (ap (in_words j) (sym (edited_at f.segments u (λ (s : Segment). record s { words = slice_set s.words i w }) v.0)) ∙ e)
arrives f source (Bind d name cap) safe (DirName v m) c e =
    in_entry (v.0 == d) (at f.dirs v.0) name m (record { cap = cap; kept = false }) c (ap (in_dir m) (sym (edited_at f.dirs d (with_entry name (record { cap = cap; kept = false })) v.0)) ∙ e)
arrives f source (Bind d name cap) safe (ImplOf v) c e =
    same_rep (v.0 == d) (at f.objects v.0) (at f.dirs v.0) (with_entry name (record { cap = cap; kept = false })) (λ x. refl) c (ap (rep_cap (at f.objects v.0)) (sym (edited_at f.dirs d (with_entry name (record { cap = cap; kept = false })) v.0)) ∙ e)
arrives f source (Unbind d name) safe (DirName v m) c e =
    in_dropped (v.0 == d) (at f.dirs v.0) name m c (ap (in_dir m) (sym (edited_at f.dirs d (without_entry name) v.0)) ∙ e)
arrives f source (Unbind d name) safe (ImplOf v) c e =
    same_rep (v.0 == d) (at f.objects v.0) (at f.dirs v.0) (without_entry name) (λ x. refl) c (ap (rep_cap (at f.objects v.0)) (sym (edited_at f.dirs d (without_entry name) v.0)) ∙ e)
arrives f source (Register o d name kind) safe (DirName v m) c e =
    in_entry (v.0 == d) (at f.dirs v.0) name m (kept_entry o) c (ap (in_dir m) (sym (edited_at f.dirs d (with_entry name (kept_entry o)) v.0)) ∙ e)
arrives f source (Register o d name kind) safe (ImplOf v) c e =
    same_rep (v.0 == d) (at f.objects v.0) (at f.dirs v.0) (with_entry name (kept_entry o)) (λ x. refl) c (ap (rep_cap (at f.objects v.0)) (sym (edited_at f.dirs d (with_entry name (kept_entry o)) v.0)) ∙ e)
arrives f source (Unregister o d name) safe (DirName v m) c e =
    in_dropped (v.0 == d) (at f.dirs v.0) name m c (ap (in_dir m) (sym (edited_at f.dirs d (without_entry name) v.0)) ∙ e)
arrives f source (Unregister o d name) safe (ImplOf v) c e =
    same_rep (v.0 == d) (at f.objects v.0) (at f.dirs v.0) (without_entry name) (λ x. refl) c (ap (rep_cap (at f.objects v.0)) (sym (edited_at f.dirs d (without_entry name) v.0)) ∙ e)
arrives f source (Post b w) safe (BoxAt v i) c e =
    by_test (λ q. in_box i (cond q (option_map (λ (x : List Word). x ++ (w ∷ [])) (at f.boxes v.0)) (at f.boxes v.0)) ≡ Some c
    → cond (q && (i == if_there (at f.boxes b) 0 (λ box. length box))) (cap_in w) (in_box i (at f.boxes v.0)) ≡ Some c) v.0 b
    (λ same there. subst (λ (k : ℕ). cond (i == if_there (at f.boxes k) 0 (λ box. length box)) (cap_in w) (in_box i (at f.boxes v.0)) ≡ Some c) same (in_posted true (at f.boxes v.0) i w c there))
    (λ other there. there)
    (ap (in_box i) (sym (edited_at f.boxes b (λ (x : List Word). x ++ (w ∷ [])) v.0)) ∙ e)
arrives f source (Draw b) safe (BoxAt v i) c e = in_drawn (v.0 == b) (at f.boxes v.0) i c (ap (in_box i) (sym (edited_at f.boxes b (drop 1) v.0)) ∙ e)
arrives f source (MakeSegment u len guard) safe (SegWord v j) c e =
    in_bare (λ (s : Segment). cap_in (word_at s.words j)) (v.0 == u) (new_segment len guard) (at f.segments v.0) (no_words len guard j) c (ap (in_words j) (sym (at-put f.segments u (new_segment len guard) v.0)) ∙ e)
arrives f source (MakeObject u o len) safe (SegWord v j) c e =
    in_bare (λ (s : Segment). cap_in (word_at s.words j)) (v.0 == o.rep) (new_segment len (record { 0 = 1 })) (at f.segments v.0) (no_words len (record { 0 = 1 }) j) c (ap (in_words j) (sym (at-put f.segments o.rep (new_segment len (record { 0 = 1 })) v.0)) ∙ e)
arrives f source (MakeObject u o len) safe (ImplOf v) c e =
    if_rep (v.0 == u) o (at f.objects v.0) (at f.dirs v.0) c (ap (λ x. rep_cap x (at f.dirs v.0)) (sym (at-put f.objects u o v.0)) ∙ e)
arrives f source (MakeDirectory u rep guard) safe (DirName v m) c e =
    in_bare (λ (d : Directory). option_map (λ (e : Named). e.cap) (named d m)) (v.0 == u) (record { guard = guard; rep = rep; names = maps.empty }) (at f.dirs v.0) (no_names guard rep m) c
    (ap (in_dir m) (sym (at-put f.dirs u (record { guard = guard; rep = rep; names = maps.empty }) v.0)) ∙ e)
arrives f source (MakeDirectory u rep guard) safe (ImplOf v) c e =
    by_test (λ q. rep_cap (at f.objects v.0) (cond q (Some (record { guard = guard; rep = rep; names = maps.empty })) (at f.dirs v.0)) ≡ Some c
    → cond q (Some (full rep)) (rep_cap (at f.objects v.0) (at f.dirs v.0)) ≡ Some c) v.0 u
    (λ same there. new_rep (at f.objects v.0) (record { guard = guard; rep = rep; names = maps.empty }) (ap (at f.objects) same ∙ safe.1) c there)
    (λ other there. there)
    (ap (rep_cap (at f.objects v.0)) (sym (at-put f.dirs u (record { guard = guard; rep = rep; names = maps.empty }) v.0)) ∙ e)
arrives f source (MakeCode u row) safe (Link v) c e =
    in_made (λ (x : CodeRow). cap_in x.link) (v.0 == u) row (at f.codes v.0) c (ap in_code (sym (at-put f.codes u row v.0)) ∙ e)
arrives f source (DropSegment u) safe (SegWord v j) c e =
    in_gone (λ (s : Segment). cap_in (word_at s.words j)) (v.0 == u) (at f.segments v.0) c (ap (in_words j) (sym (at-without f.segments u v.0)) ∙ e)
arrives f source (DropObject u rep) safe (SegWord v j) c e =
    in_gone (λ (s : Segment). cap_in (word_at s.words j)) (v.0 == rep) (at f.segments v.0) c (ap (in_words j) (sym (at-without f.segments rep v.0)) ∙ e)
arrives f source (DropObject u rep) safe (ImplOf v) c e =
    by_test (λ b. rep_cap (cond b None (at f.objects v.0)) (at f.dirs v.0) ≡ Some c → rep_cap (at f.objects v.0) (at f.dirs v.0) ≡ Some c) v.0 u
    (λ same there. absurd (no_rep (at f.dirs v.0) c (ap (at f.dirs) same ∙ safe) there)) (λ other there. there)
    (ap (λ x. rep_cap x (at f.dirs v.0)) (sym (at-without f.objects u v.0)) ∙ e)
arrives f source (DropDirectory u) safe (DirName v m) c e =
    in_gone (λ (d : Directory). option_map (λ (e : Named). e.cap) (named d m)) (v.0 == u) (at f.dirs v.0) c (ap (in_dir m) (sym (at-without f.dirs u v.0)) ∙ e)
arrives f source (DropDirectory u) safe (ImplOf v) c e =
    gone_rep (v.0 == u) (at f.objects v.0) (at f.dirs v.0) c (ap (rep_cap (at f.objects v.0)) (sym (at-without f.dirs u v.0)) ∙ e)
arrives f source (DropCode u) safe (Link v) c e =
    in_gone (λ (x : CodeRow). cap_in x.link) (v.0 == u) (at f.codes v.0) c (ap in_code (sym (at-without f.codes u v.0)) ∙ e)
arrives f source _ safe _ c e = e

-- ---- several

-- each change is safe, and none but the first moves words
abbrev pub AreSafe : Flat → List Change → Type 0
AreSafe f [] = ⊤
AreSafe f (ch ∷ rest) = Safe f ch × (((p : Place) → before rest p ≡ p) × AreSafe (changed f ch) rest)

pub arrives_all : (f : Flat) (source : Option Source) (cs : List Change) → AreSafe f cs → (p : Place)
    → Within (cap_at (changed_all f cs) p) (landed (changes_put f source cs) p (cap_at f (before cs p)))
arrives_all f source [] safe p c e = e
arrives_all f source (ch ∷ rest) safe p c e =
    let later = arrives_all (changed f ch) source rest safe.1.1 p c e in
    let first : Within (cap_at (changed f ch) (before rest p)) (landed (change_puts f source ch) p (cap_at f (before_change ch (before rest p)))) =
    subst (λ q. Within (cap_at (changed f ch) q) (landed (change_puts f source ch) p (cap_at f (before_change ch q)))) (sym (safe.1.0 p)) (arrives f source ch safe.0 p) in
    landed_append (changes_put (changed f ch) source rest) (change_puts f source ch) p _ ∙ landed_within (changes_put (changed f ch) source rest) p _ _ first c later
