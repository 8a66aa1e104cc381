-- At a place that is there, what lands last is what is there.
use Rattle.std.proofs.Common.{◌≡◌, ◌⊎◌, ℕ, ◌==◌, ◌&&◌, ◌||◌, Bool, true, false, cond, List, [], ◌∷◌, ◌++◌, length, slice_set, Option, Some, None, option_map, bytes_eq, refl, sym, ap, subst, ◌∙◌, inl, inr, arith}
use Rattle.std.specs.FinMap as maps
use Rattle.std.proofs.lemmas.Option.{same_Some, none-some}
use Rattle.std.proofs.lemmas.Bool.{eq-eqb, false≢true, and_parts}
use Rattle.std.proofs.lemmas.Slice.Eq.{bytes_eq-Decides}
use Rattle.psos_table.specs.Table.{Table, at, edit}
use Rattle.psos_table.proofs.Tables.{at-put_here, at-edit_here}
use Rattle.psos_caps.specs.Capability.{Capability, full}
use Rattle.psos_text.specs.declared.name.Name.{Name}
use Rattle.psos_words.specs.declared.word.Word.{Word}
use Rattle.psos_words.specs.declared.word.Word.TheVariants.{Cap}
use Rattle.psos_words.specs.Words.{word_at}
use Rattle.psos_calls.specs.declared.kind.Kind.{Kind}
use Rattle.psos_calls.specs.Language.Capabilities.{uid}
use Rattle.psos_calls.specs.Language.Tests.{if_there}
use Rattle.psos_model.specs.declared.place.Place.{Place}
use Rattle.psos_model.specs.declared.place.Place.TheVariants.{Reg, SegWord, DirName, BoxAt, Link, ImplOf}
use Rattle.psos_model.specs.Flat.{Flat, Segment, Object, Directory, Named, named}
use Rattle.psos_model.specs.Flat.Places.{cap_in, cap_at, rep_cap, same_place}
use Rattle.psos_model.specs.declared.change.Change.{Change}
use Rattle.psos_model.specs.declared.change.Change.TheVariants.{Fresh, PutWord, Bind, Register, Post, MakeSegment, MakeType, MakeObject, MakeDirectory, MakeCode}
use Rattle.psos_model.specs.Flat.Changes.{changed, changed_all, kept_entry, with_entry}
use Rattle.psos_model.specs.Answer.Outcomes.{Source}
use Rattle.psos_laws.specs.Landings.{Landing, lands, change_puts, changes_put, found, landed, IsThere}
use Rattle.psos_laws.proofs.Landings.{one_place, edited_at, named_put, append_here}
use Rattle.psos_laws.proofs.ChangeArrivals.{Safe, AreSafe, in_words, in_dir, in_box, in_code}
use Rattle.psos_laws.proofs.OwnLandings.{set_there}
use Rattle.psos_laws.proofs.StepLaws.{is_making, lands_none, none_land, only_fresh, tells, is_short}

-- ---- what is found

-- what is found at a place is what has landed there
pub found_landed : (ls : List Landing) (p : Place) (l : Landing) (o : Option Capability) → found ls p ≡ Some l → landed ls p o ≡ cap_in l.word
found_landed [] p l o e = absurd (none-some l e)
found_landed (k ∷ ls) p l o e = by_bool (same_place p k.place) (found_landed ls p l o) e
  where
    by_bool : (b : Bool) → (found ls p ≡ Some l → landed ls p o ≡ cap_in l.word) → cond b (Some k) (found ls p) ≡ Some l → cond b (cap_in k.word) (landed ls p o) ≡ cap_in l.word
    by_bool true on e = ap (λ (z : Landing). cap_in z.word) (same_Some k l e)
    by_bool false on e = on e

pub none_landed : (ls : List Landing) (p : Place) (o : Option Capability) → found ls p ≡ None → landed ls p o ≡ o
none_landed [] p o e = refl
none_landed (k ∷ ls) p o e = by_bool (same_place p k.place) (none_landed ls p o) e
  where
    by_bool : (b : Bool) → (found ls p ≡ None → landed ls p o ≡ o) → cond b (Some k) (found ls p) ≡ None → cond b (cap_in k.word) (landed ls p o) ≡ o
    by_bool true on e = absurd (none-some k (sym e))
    by_bool false on e = on e

-- one landing that is found
record IsOnly (k : Landing) (p : Place) (l : Landing) : Type 0 where
  here : p ≡ k.place
  same : k ≡ l

only_found : (k : Landing) (p : Place) (l : Landing) → found (k ∷ []) p ≡ Some l → IsOnly k p l
only_found k p l e = by_bool (same_place p k.place) refl e
  where
    by_bool : (b : Bool) → same_place p k.place ≡ b → cond b (Some k) None ≡ Some l → IsOnly k p l
    by_bool true is e = record { here = one_place p k.place is; same = same_Some k l e }
    by_bool false is e = absurd (none-some l e)

-- of two lists the first counts
found_either : (ps qs : List Landing) (p : Place) (l : Landing) → found (ps ++ qs) p ≡ Some l → (found ps p ≡ Some l) ⊎ ((found ps p ≡ None) × (found qs p ≡ Some l))
found_either [] qs p l e = inr (refl, e)
found_either (k ∷ ps) qs p l e = by_bool (same_place p k.place) (found_either ps qs p l) e
  where
    by_bool : (b : Bool) → (found (ps ++ qs) p ≡ Some l → (found ps p ≡ Some l) ⊎ ((found ps p ≡ None) × (found qs p ≡ Some l)))
        → cond b (Some k) (found (ps ++ qs) p) ≡ Some l → (cond b (Some k) (found ps p) ≡ Some l) ⊎ ((cond b (Some k) (found ps p) ≡ None) × (found qs p ≡ Some l))
    by_bool true on e = inl e
    by_bool false on e = on e

-- ---- one change

bytes_same : (b : List ℕ) → bytes_eq b b ≡ true
bytes_same b = (bytes_eq-Decides b b).1 refl

word_there : (f : Flat) (u i : ℕ) (w : Word) → IsThere (changed f (PutWord u i w)) (SegWord (uid u) i) → cap_at (changed f (PutWord u i w)) (SegWord (uid u) i) ≡ cap_in w
word_there f u i w there =
    let g : Segment → Segment = λ s. record s { words = slice_set s.words i w } in
    ap (in_words i) (at-edit_here f.segments u g) ∙ by_row (at f.segments u) (sym (at-edit_here f.segments u g) ∙ there.1)
  where
    by_row : (o : Option Segment) → option_map (λ (s : Segment). record s { words = slice_set s.words i w }) o ≡ Some there.0 → in_words i (option_map (λ (s : Segment). record s { words = slice_set s.words i w }) o) ≡ cap_in w
    by_row None e = absurd (none-some there.0 e)
    by_row (Some s) e =
        let long : length there.0.words ≡ length (slice_set s.words i w) = ap (λ (z : Segment). length z.words) (sym (same_Some (record s { words = slice_set s.words i w }) there.0 e)) in
        set_there s.words i i w (omega (arith, there.2, long)) ∙ ap (λ b. cond b (cap_in w) (cap_in (word_at s.words i))) (eq-eqb i i refl)

entry_there : (t : Table Directory) (d : ℕ) (name : Name) (en : Named) (row : Directory) → at (edit t d (with_entry name en)) d ≡ Some row → in_dir name (at (edit t d (with_entry name en)) d) ≡ Some en.cap
entry_there t d name en row live = ap (in_dir name) (at-edit_here t d (with_entry name en)) ∙ by_row (at t d) (sym (at-edit_here t d (with_entry name en)) ∙ live)
  where
    by_row : (o : Option Directory) → option_map (with_entry name en) o ≡ Some row → in_dir name (option_map (with_entry name en) o) ≡ Some en.cap
    by_row None e = absurd (none-some row e)
    by_row (Some y) e = ap (option_map (λ (e : Named). e.cap)) (named_put y.names name en name ∙ ap (λ b. cond b (Some en) (named y name)) (bytes_same name.bytes))

message_there : (f : Flat) (b : ℕ) (w : Word) → IsThere (changed f (Post b w)) (BoxAt (uid b) (if_there (at f.boxes b) 0 (λ box. length box)))
    → cap_at (changed f (Post b w)) (BoxAt (uid b) (if_there (at f.boxes b) 0 (λ box. length box))) ≡ cap_in w
message_there f b w there =
    let g : List Word → List Word = λ box. box ++ w ∷ [] in
    ap (in_box (if_there (at f.boxes b) 0 (λ box. length box))) (at-edit_here f.boxes b g) ∙ by_row (at f.boxes b) (sym (at-edit_here f.boxes b g) ∙ there.1)
  where
    by_row : (o : Option (List Word)) → option_map (λ (box : List Word). box ++ w ∷ []) o ≡ Some there.0 → in_box (if_there o 0 (λ box. length box)) (option_map (λ (box : List Word). box ++ w ∷ []) o) ≡ cap_in w
    by_row None e = absurd (none-some there.0 e)
    by_row (Some box) e = ap cap_in (append_here box w)

new_rep : (o : Option Object) (row : Directory) → o ≡ None → rep_cap o (Some row) ≡ Some (full row.rep)
new_rep None row none = refl
new_rep (Some x) row none = absurd (none-some x (sym none))

-- what a making change lands is there
made_there : (f : Flat) (source : Option Source) (ch : Change) → Safe f ch → is_making ch ≡ true → (p : Place) (l : Landing) → found (change_puts f source ch) p ≡ Some l → cap_at (changed f ch) p ≡ cap_in l.word
made_there f source (MakeObject u o len) safe making p l e =
    let k = only_found (lands (ImplOf (uid u)) (Cap (full o.rep)) None) p l e in
    ap (cap_at (changed f (MakeObject u o len))) k.here ∙ (ap (λ x. rep_cap x (at f.dirs u)) (at-put_here f.objects u o) ∙ ap (λ (z : Landing). cap_in z.word) k.same)
made_there f source (MakeDirectory u rep guard) safe making p l e =
    let k = only_found (lands (ImplOf (uid u)) (Cap (full rep)) None) p l e in
    let row : Directory = record { guard = guard; rep = rep; names = maps.empty } in
    ap (cap_at (changed f (MakeDirectory u rep guard))) k.here ∙ (ap (rep_cap (at f.objects u)) (at-put_here f.dirs u row) ∙ (new_rep (at f.objects u) row safe.1 ∙ ap (λ (z : Landing). cap_in z.word) k.same))
made_there f source (MakeCode u row) safe making p l e =
    let k = only_found (lands (Link (uid u)) row.link source) p l e in
    ap (cap_at (changed f (MakeCode u row))) k.here ∙ (ap in_code (at-put_here f.codes u row) ∙ ap (λ (z : Landing). cap_in z.word) k.same)
made_there f source (MakeSegment u len guard) safe making p l e = absurd (none-some l e)
made_there f source (MakeType u) safe making p l e = absurd (none-some l e)
made_there f source _ safe making p l e = absurd (false≢true making)

-- what any change lands is there, if the place is
one_there : (f : Flat) (source : Option Source) (ch : Change) → Safe f ch → (p : Place) (l : Landing) → found (change_puts f source ch) p ≡ Some l → IsThere (changed f ch) p → cap_at (changed f ch) p ≡ cap_in l.word
one_there f source (PutWord u i w) safe p l e there =
    let k = only_found (lands (SegWord (uid u) i) w source) p l e in
    ap (cap_at (changed f (PutWord u i w))) k.here ∙ (word_there f u i w (subst (IsThere (changed f (PutWord u i w))) k.here there) ∙ ap (λ (z : Landing). cap_in z.word) k.same)
one_there f source (Bind d name cap) safe p l e there =
    let k = only_found (lands (DirName (uid d) name) (Cap cap) source) p l e in
    let live : IsThere (changed f (Bind d name cap)) (DirName (uid d) name) = subst (IsThere (changed f (Bind d name cap))) k.here there in
    ap (cap_at (changed f (Bind d name cap))) k.here ∙ (entry_there f.dirs d name (record { cap = cap; kept = false }) live.0 live.1 ∙ ap (λ (z : Landing). cap_in z.word) k.same)
one_there f source (Register o d name kind) safe p l e there =
    let k = only_found (lands (DirName (uid d) name) (Cap (full o)) None) p l e in
    let live : IsThere (changed f (Register o d name kind)) (DirName (uid d) name) = subst (IsThere (changed f (Register o d name kind))) k.here there in
    ap (cap_at (changed f (Register o d name kind))) k.here ∙ (entry_there f.dirs d name (kept_entry o) live.0 live.1 ∙ ap (λ (z : Landing). cap_in z.word) k.same)
one_there f source (Post b w) safe p l e there =
    let k = only_found (lands (BoxAt (uid b) (if_there (at f.boxes b) 0 (λ box. length box))) w source) p l e in
    ap (cap_at (changed f (Post b w))) k.here ∙ (message_there f b w (subst (IsThere (changed f (Post b w))) k.here there) ∙ ap (λ (z : Landing). cap_in z.word) k.same)
one_there f source (MakeObject u o len) safe p l e there = made_there f source (MakeObject u o len) safe refl p l e
one_there f source (MakeDirectory u rep guard) safe p l e there = made_there f source (MakeDirectory u rep guard) safe refl p l e
one_there f source (MakeCode u row) safe p l e there = made_there f source (MakeCode u row) safe refl p l e
one_there f source _ safe p l e there = absurd (none-some l e)

-- ---- changes that use up identifiers, and that tell a user object

next_same : (f : Flat) (n : ℕ) (p : Place) → cap_at (record f { next = n }) p ≡ cap_at f p
next_same f n (Reg u i) = refl
next_same f n _ = refl

next_there : (f : Flat) (n : ℕ) (p : Place) → IsThere (record f { next = n }) p → IsThere f p
next_there f n (Reg u i) there = there
next_there f n _ there = there

fresh_is : (f : Flat) (cs : List Change) → only_fresh cs ≡ true → (n : ℕ) × (changed_all f cs ≡ record f { next = n })
fresh_is f [] e = (f.next, refl)
fresh_is f (Fresh ∷ rest) e = let h = fresh_is (changed f Fresh) rest e in (h.0, h.1)
fresh_is f (_ ∷ rest) e = absurd (false≢true e)

none_append : (ls : List Landing) (p : Place) → found ls p ≡ None → found (ls ++ []) p ≡ None
none_append [] p e = refl
none_append (k ∷ ls) p e = by_bool (same_place p k.place) (none_append ls p) e
  where
    by_bool : (b : Bool) → (found ls p ≡ None → found (ls ++ []) p ≡ None) → cond b (Some k) (found ls p) ≡ None → cond b (Some k) (found (ls ++ []) p) ≡ None
    by_bool true on e = e
    by_bool false on e = on e

none_right : (ls qs : List Landing) (p : Place) → found (ls ++ qs) p ≡ None → found qs p ≡ None
none_right [] qs p e = e
none_right (k ∷ ls) qs p e = by_bool (same_place p k.place) (none_right ls qs p) e
  where
    by_bool : (b : Bool) → (found (ls ++ qs) p ≡ None → found qs p ≡ None) → cond b (Some k) (found (ls ++ qs) p) ≡ None → found qs p ≡ None
    by_bool true on e = absurd (none-some k (sym e))
    by_bool false on e = on e

fresh_none : (f : Flat) (source : Option Source) (cs : List Change) (p : Place) → only_fresh cs ≡ true → found (changes_put f source cs) p ≡ None
fresh_none f source [] p e = refl
fresh_none f source (Fresh ∷ rest) p e = none_append (changes_put (changed f Fresh) source rest) p (fresh_none (changed f Fresh) source rest p e)
fresh_none f source (_ ∷ rest) p e = absurd (false≢true e)

entry_apart : (b : Bool) (o : Option Directory) (name m : Name) (en : Named) → (b && bytes_eq m.bytes name.bytes) ≡ false → in_dir m (cond b (option_map (with_entry name en) o) o) ≡ in_dir m o
entry_apart true None name m en apart = refl
entry_apart true (Some y) name m en apart = ap (option_map (λ (e : Named). e.cap)) (named_put y.names name en m ∙ ap (λ b. cond b (Some en) (named y m)) apart)
entry_apart false o name m en apart = refl

rep_same : (b : Bool) (x : Option Object) (d : Option Directory) (name : Name) (en : Named) → rep_cap x (cond b (option_map (with_entry name en) d) d) ≡ rep_cap x d
rep_same true (Some o) d name en = refl
rep_same true None None name en = refl
rep_same true None (Some d) name en = refl
rep_same false x d name en = refl

missed : (b : Bool) (k : Landing) → cond b (Some k) None ≡ None → b ≡ false
missed true k e = absurd (none-some k (sym e))
missed false k e = refl

-- a user object that is told changes no place but that of its entry
told_same : (f : Flat) (o d : ℕ) (name : Name) (kind : Kind) (p : Place) → found (lands (DirName (uid d) name) (Cap (full o)) None ∷ []) p ≡ None → cap_at (changed f (Register o d name kind)) p ≡ cap_at f p
told_same f o d name kind (DirName v m) e =
    ap (in_dir m) (edited_at f.dirs d (with_entry name (kept_entry o)) v.0)
    ∙ entry_apart (v.0 == d) (at f.dirs v.0) name m (kept_entry o) (missed ((v.0 == d) && bytes_eq m.bytes name.bytes) (lands (DirName (uid d) name) (Cap (full o)) None) e)
told_same f o d name kind (ImplOf v) e =
    ap (rep_cap (at f.objects v.0)) (edited_at f.dirs d (with_entry name (kept_entry o)) v.0) ∙ rep_same (v.0 == d) (at f.objects v.0) (at f.dirs v.0) name (kept_entry o)
told_same f o d name kind _ e = refl

-- ---- lists of changes

nothing_put : (f : Flat) (source : Option Source) (ch : Change) → lands_none ch ≡ true → change_puts f source ch ≡ []
nothing_put f source (PutWord u i w) e = absurd (false≢true e)
nothing_put f source (Bind d name cap) e = absurd (false≢true e)
nothing_put f source (Register o d name kind) e = absurd (false≢true e)
nothing_put f source (Post b w) e = absurd (false≢true e)
nothing_put f source (MakeObject u o len) e = absurd (false≢true e)
nothing_put f source (MakeDirectory u rep guard) e = absurd (false≢true e)
nothing_put f source (MakeCode u row) e = absurd (false≢true e)
nothing_put f source _ e = refl

none_found : (f : Flat) (source : Option Source) (cs : List Change) (p : Place) → none_land cs ≡ true → found (changes_put f source cs) p ≡ None
none_found f source [] p e = refl
none_found f source (ch ∷ rest) p e =
    let both = and_parts (lands_none ch) (none_land rest) e in
    let before = changes_put (changed f ch) source rest in
    subst (λ qs. found (before ++ qs) p ≡ None) (sym (nothing_put f source ch both.0)) (none_append before p (none_found (changed f ch) source rest p both.1))

-- one change, and then identifiers are used up
one_then : (f : Flat) (source : Option Source) (ch : Change) (rest : List Change) → Safe f ch → only_fresh rest ≡ true → (p : Place) (l : Landing) → found (changes_put f source (ch ∷ rest)) p ≡ Some l
    → IsThere (changed_all f (ch ∷ rest)) p → cap_at (changed_all f (ch ∷ rest)) p ≡ cap_in l.word
one_then f source ch rest safe fresh p l e there =
    let g = changed f ch in
    let n = fresh_is g rest fresh in
    let live : IsThere g p = next_there g n.0 p (subst (λ h. IsThere h p) n.1 there) in
    let here : found (change_puts f source ch) p ≡ Some l = elim (found_either (changes_put g source rest) (change_puts f source ch) p l e) [
      | inl bad ↦ absurd (none-some l (sym (fresh_none g source rest p fresh) ∙ bad))
      | inr good ↦ good.1
    ] in
    ap (λ (h : Flat). cap_at h p) n.1 ∙ (next_same g n.0 p ∙ one_there f source ch safe p l here live)

-- a thing is made and told
made_then : (f : Flat) (source : Option Source) (ch : Change) (rest : List Change) → Safe f ch → is_making ch ≡ true → tells rest ≡ true → (p : Place) (l : Landing) → found (changes_put f source (ch ∷ rest)) p ≡ Some l
    → IsThere (changed_all f (ch ∷ rest)) p → cap_at (changed_all f (ch ∷ rest)) p ≡ cap_in l.word
made_then f source ch (Register o d name kind ∷ rest) safe making fresh p l e there =
    let g = changed f ch in
    let told = Register o d name kind in
    let n = fresh_is (changed g told) rest fresh in
    elim (found_either (changes_put g source (told ∷ rest)) (change_puts f source ch) p l e) [
      | inl late ↦ one_then g source told rest tt fresh p l late there
      | inr early ↦
          ap (λ (h : Flat). cap_at h p) n.1 ∙ (next_same (changed g told) n.0 p
          ∙ (told_same g o d name kind p (none_right (changes_put (changed g told) source rest) (change_puts g source told) p early.0)
          ∙ made_there f source ch safe making p l early.1))
    ]
made_then f source ch [] safe making told p l e there = absurd (false≢true told)
made_then f source ch (_ ∷ rest) safe making told p l e there = absurd (false≢true told)

either : (a b : Bool) → (a || b) ≡ true → (a ≡ true) ⊎ (b ≡ true)
either true b e = inl refl
either false b e = inr e

-- what a short list of changes lands last at a place is there, if the place is
pub changes_there : (f : Flat) (source : Option Source) (cs : List Change) → AreSafe f cs → is_short cs ≡ true → (p : Place) (l : Landing) → found (changes_put f source cs) p ≡ Some l
    → IsThere (changed_all f cs) p → cap_at (changed_all f cs) p ≡ cap_in l.word
changes_there f source [] safe short p l e there = absurd (none-some l e)
changes_there f source (ch ∷ rest) safe short p l e there = elim (either (none_land (ch ∷ rest)) (only_fresh rest || (is_making ch && tells rest)) short) [
  | inl none ↦ absurd (none-some l (sym (none_found f source (ch ∷ rest) p none) ∙ e))
  | inr some ↦ elim (either (only_fresh rest) (is_making ch && tells rest) some) [
    | inl fresh ↦ one_then f source ch rest safe.0 fresh p l e there
    | inr both ↦
        let parts = and_parts (is_making ch) (tells rest) both in
        made_then f source ch rest safe.0 parts.0 parts.1 p l e there
  ]
]
