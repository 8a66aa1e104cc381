-- The rules of the tables that users share, and how each change of a table keeps them.
use Rattle.std.proofs.Common.{◌≡◌, ℕ, ◌+◌, ◌<◌, ◌≤◌, ◌==◌, ◌-◌, Bool, true, false, cond, List, [], ◌∷◌, ◌++◌, length, drop, Some, None, refl, sym, ap, subst, ◌∙◌, inl, inr, arith, length-append, length-drop}
use Rattle.std.specs.Prelude.{IsSome, is_some, slice_set}
use Rattle.std.specs.Option.{option_map}
use Rattle.std.specs.FinMap.{len, empty, insert, remove, contains_key, len-insert, len-remove, len-empty}
use Rattle.std.proofs.lemmas.List.{length-set, length-replicate}
use Rattle.std.proofs.lemmas.Bool.{cases_eq, not-true, eqb-false, eq-eqb, lt-ltb, true≢false}
use Rattle.std.proofs.lemmas.Option.{same_Some, none-some}
use Rattle.psos_limits.specs.declared.TheConstants.{MOST_WORDS, MOST_ENTRIES}
use Rattle.psos_table.specs.Table.{Table, at, put, without, kept, edit, size}
use Rattle.psos_table.proofs.Tables.{at-put_here, at-put_apart, at-edit_here, at-edit_apart, at-without_apart, row-without, row-kept, at-kept, size-some, row_put, row_edited, row_without}
use Rattle.std.proofs.lemmas.Map.Entries.{option_filter}
use Rattle.psos_text.specs.declared.name.Name.{Name}
use Rattle.psos_caps.specs.declared.rights.Rights.{Rights}
use Rattle.psos_words.specs.declared.word.Word.{Word}
use Rattle.psos_words.specs.declared.word.Word.TheVariants.{Data}
use Rattle.psos_calls.specs.declared.kind.Kind.{Kind}
use Rattle.psos_calls.specs.declared.win_row.WinRow.{WinRow}
use Rattle.psos_calls.specs.declared.code_row.CodeRow.{CodeRow}
use Rattle.psos_calls.specs.Language.Script.{Script}
use Rattle.psos_calls.specs.Language.User.{User}
use Rattle.psos_calls.specs.Language.Views.{is_not_over}
use Rattle.psos_calls.specs.Language.Names.{name_cmp}
use Rattle.psos_model.specs.Flat.{Flat, Segment, Object, Directory, Named, Names}
use Rattle.psos_model.specs.Flat.Changes.{new_segment, windows_but, with_entry, without_entry}
use Rattle.psos_model.specs.Answer.Objects.{has_objects}
use Rattle.psos_model.proofs.NameOrder.{name_cmp_total}
use Rattle.psos_model.specs.Sound.Roles.{Role, PartOf, HiddenIn}
use Rattle.psos_model.specs.Sound.Roles as roles
use Rattle.psos_model.specs.Sound.Rows.{IsGuard, IsSoundSegment, IsSoundWindow, IsSoundObject, IsSoundDirectory, IsSoundProcess, IsSoundCode}

-- what is live, table by table
pub record Rows (s : Script) (role : ℕ → Role) (f : Flat) : Type 0 where
  pub segments : (u : ℕ) (x : Segment) → at f.segments u ≡ Some x → IsSoundSegment role f u x
  pub windows : (u : ℕ) (x : WinRow) → at f.windows u ≡ Some x → IsSoundWindow role f u x
  pub types : (u : ℕ) (x : Bool) → at f.types u ≡ Some x → (u < f.next) × (role u ≡ roles.Typ)
  pub objects : (u : ℕ) (x : Object) → at f.objects u ≡ Some x → IsSoundObject role f u x
  pub dirs : (u : ℕ) (x : Directory) → at f.dirs u ≡ Some x → IsSoundDirectory role f u x
  pub boxes : (u : ℕ) (x : List Word) → at f.boxes u ≡ Some x → IsSoundProcess s role f u x
  pub codes : (u : ℕ) (x : CodeRow) → at f.codes u ≡ Some x → IsSoundCode s role f u x

-- ---- a row stands in another state

-- a segment is still there, with its guard and at least its words
pub record Under (t : Table Segment) (u : ℕ) (old : Segment) : Type 0 where
  pub row : Segment
  pub live : at t u ≡ Some row
  pub long : length old.words ≤ length row.words
  pub guard : row.guard.0 ≡ old.guard.0

under_same : (t : Table Segment) (u : ℕ) (x : Segment) → at t u ≡ Some x → Under t u x
under_same t u x e = record { row = x; live = e; long = omega arith; guard = refl }

under_put : (t : Table Segment) (k : ℕ) (y : Segment) → at t k ≡ None → (u : ℕ) (x : Segment) → at t u ≡ Some x → Under (put t k y) u x
under_put t k y none u x e = under_same (put t k y) u x (at-put_apart t k y u (λ same. none-some x (sym none ∙ (ap (at t) (sym same) ∙ e))) ∙ e)

under_without : (t : Table Segment) (k u : ℕ) (x : Segment) → (u ≡ k → ⊥) → at t u ≡ Some x → Under (without t k) u x
under_without t k u x apart e = under_same (without t k) u x (at-without_apart t k u apart ∙ e)

under_edit : (t : Table Segment) (k : ℕ) (g : Segment → Segment) → ((x : Segment) → length (g x).words ≡ length x.words) → ((x : Segment) → (g x).guard.0 ≡ x.guard.0)
    → (u : ℕ) (x : Segment) → at t u ≡ Some x → Under (edit t k g) u x
under_edit t k g long guard u x e = elim (cases_eq u k) [
  | inl same ↦
      let there : at (edit t k g) u ≡ Some (g x) = ap (at (edit t k g)) same ∙ (at-edit_here t k g ∙ ap (option_map g) (ap (at t) (sym same) ∙ e)) in
      record { row = g x; live = there; long = omega (arith, long x); guard = guard x }
  | inr apart ↦ under_same (edit t k g) u x (at-edit_apart t k g u apart ∙ e)
]

module _ (role : ℕ → Role) (f g : Flat) (le : f.next ≤ g.next) where
  segment_on : (u : ℕ) (x : Segment) → ((o : ℕ) (row : Object) → at f.objects o ≡ Some row → row.rep ≡ u → at g.objects o ≡ Some row) → IsSoundSegment role f u x → IsSoundSegment role g u x
  segment_on u x parts h = record {
    below = omega (arith, h.below, le);
    role-is = elim h.role-is [
      | inl plain ↦ inl plain
      | inr p ↦ inr (record { object = p.object; row = p.row; part = p.part; live = parts p.object p.row p.live p.rep; rep = p.rep })
    ];
    some = h.some;
    few = h.few;
    guard = h.guard;
  }

  window_on : (u : ℕ) (x : WinRow) → ((old : Segment) → at f.segments x.seg.0 ≡ Some old → Under g.segments x.seg.0 old) → IsSoundWindow role f u x → IsSoundWindow role g u x
  window_on u x under h =
      let now = under h.under h.live in
      record { below = omega (arith, h.below, le); role-is = h.role-is; some = h.some; under = now.row; live = now.live; within = omega (arith, h.within, now.long) }

  object_on : (u : ℕ) (x : Object) → (IsSome (at f.types x.of) → IsSome (at g.types x.of)) → ((old : Segment) → at f.segments x.rep ≡ Some old → Under g.segments x.rep old) → IsSoundObject role f u x → IsSoundObject role g u x
  object_on u x typ under h =
      let now = under h.rep h.live in
      record { below = omega (arith, h.below, le); role-is = h.role-is; typ = typ h.typ; part = h.part; rep = now.row; live = now.live; guard = now.guard ∙ h.guard }

  dir_on : (u : ℕ) (x : Directory) → IsSoundDirectory role f u x → IsSoundDirectory role g u x
  dir_on u x h = record { below = omega (arith, h.below, le); role-is = h.role-is; rep_below = omega (arith, h.rep_below, le); hidden = h.hidden; few = h.few; guard = h.guard }

  box_on : (s : Script) (u : ℕ) (x : List Word) → IsSoundProcess s role f u x → IsSoundProcess s role g u x
  box_on s u x h = record { below = omega (arith, h.below, le); role-is = h.role-is; user = h.user; of_user = h.of_user; of_boot = h.of_boot; few = h.few }

  code_on : (s : Script) (u : ℕ) (x : CodeRow) → IsSoundCode s role f u x → IsSoundCode s role g u x
  code_on s u x h = record { below = omega (arith, h.below, le); role-is = h.role-is; label = h.label }

-- ---- more identifiers are used, and the new ones have roles

pub rows_raised : (s : Script) (role new : ℕ → Role) (f : Flat) (n : ℕ) (us : List User) → f.next ≤ n → ((v : ℕ) → v < f.next → new v ≡ role v) → Rows s role f → Rows s new (record f { next = n; users = us })
rows_raised s role new f n us le same r = record {
  segments = λ u x e. let h = r.segments u x e in record {
    below = omega (arith, h.below, le);
    role-is = elim h.role-is [
      | inl plain ↦ inl (same u h.below ∙ plain)
      | inr p ↦ inr (record { object = p.object; row = p.row; part = same u h.below ∙ p.part; live = p.live; rep = p.rep })
    ];
    some = h.some;
    few = h.few;
    guard = h.guard;
  };
  windows = λ u x e. let h = r.windows u x e in record { below = omega (arith, h.below, le); role-is = same u h.below ∙ h.role-is; some = h.some; under = h.under; live = h.live; within = h.within };
  types = λ u x e. let h = r.types u x e in (omega (arith, h.0, le), same u h.0 ∙ h.1);
  objects = λ u x e. let h = r.objects u x e in record {
    below = omega (arith, h.below, le);
    role-is = same u h.below ∙ h.role-is;
    typ = h.typ;
    part = same x.rep (r.segments x.rep h.rep h.live).below ∙ h.part;
    rep = h.rep;
    live = h.live;
    guard = h.guard;
  };
  dirs = λ u x e. let h = r.dirs u x e in record {
    below = omega (arith, h.below, le);
    role-is = same u h.below ∙ h.role-is;
    rep_below = omega (arith, h.rep_below, le);
    hidden = same x.rep h.rep_below ∙ h.hidden;
    few = h.few;
    guard = h.guard;
  };
  boxes = λ u x e. let h = r.boxes u x e in record { below = omega (arith, h.below, le); role-is = same u h.below ∙ h.role-is; user = h.user; of_user = h.of_user; of_boot = h.of_boot; few = h.few };
  codes = λ u x e. let h = r.codes u x e in record { below = omega (arith, h.below, le); role-is = same u h.below ∙ h.role-is; label = h.label };
}

-- ---- how many names

module _ (m : Names) (name : Name) where
  one_more : (e : Named) → len (insert m name e) ≤ len m + 1
  one_more e = by_test (contains_key m name) (len-insert name_cmp_total m name e)
    where
      by_test : (b : Bool) → len (insert m name e) ≡ cond b (len m) (len m + 1) → len (insert m name e) ≤ len m + 1
      by_test true is = omega (arith, is)
      by_test false is = omega (arith, is)

  one_fewer : len (remove m name) ≤ len m
  one_fewer = by_test (contains_key m name) (len-remove name_cmp_total m name)
    where
      by_test : (b : Bool) → len (remove m name) ≡ cond b (len m - 1) (len m) → len (remove m name) ≤ len m
      by_test true is = omega (arith, is)
      by_test false is = omega (arith, is)

-- ---- one table, or several that depend on each other, is changed

module _ (s : Script) (role : ℕ → Role) (f : Flat) (r : Rows s role f) where
  abbrev stored : Table Segment → Table WinRow → Table Object → Flat
  stored segments windows objects = record f { segments = segments; windows = windows; objects = objects }

  stored_rows : (segments : Table Segment) (windows : Table WinRow) (objects : Table Object)
      → ((u : ℕ) (x : Segment) → at segments u ≡ Some x → IsSoundSegment role (stored segments windows objects) u x)
      → ((u : ℕ) (x : WinRow) → at windows u ≡ Some x → IsSoundWindow role (stored segments windows objects) u x)
      → ((u : ℕ) (x : Object) → at objects u ≡ Some x → IsSoundObject role (stored segments windows objects) u x)
      → Rows s role (stored segments windows objects)
  stored_rows segments windows objects a b c =
      let g : Flat = stored segments windows objects in
      let le : f.next ≤ g.next = omega arith in
      record {
        segments = a;
        windows = b;
        objects = c;
        types = r.types;
        dirs = λ u x e. dir_on role f g le u x (r.dirs u x e);
        boxes = λ u x e. box_on role f g le s u x (r.boxes u x e);
        codes = λ u x e. code_on role f g le s u x (r.codes u x e);
      }

  -- types, directories, what is told of, mailboxes and procedure records are changed
  others_rows : (types : Table Bool) (dirs : Table Directory) (life : Table Kind) (boxes : Table (List Word)) (codes : Table CodeRow)
      → ((u : ℕ) (x : Bool) → at types u ≡ Some x → (u < f.next) × (role u ≡ roles.Typ))
      → ((u : ℕ) (x : Object) → at f.objects u ≡ Some x → IsSome (at f.types x.of) → IsSome (at types x.of))
      → ((u : ℕ) (x : Directory) → at dirs u ≡ Some x → IsSoundDirectory role f u x)
      → ((u : ℕ) (x : List Word) → at boxes u ≡ Some x → IsSoundProcess s role f u x)
      → ((u : ℕ) (x : CodeRow) → at codes u ≡ Some x → IsSoundCode s role f u x)
      → Rows s role (record f { types = types; dirs = dirs; life = life; boxes = boxes; codes = codes })
  others_rows types dirs life boxes codes typ live dir box code =
      let g : Flat = record f { types = types; dirs = dirs; life = life; boxes = boxes; codes = codes } in
      let le : f.next ≤ g.next = omega arith in
      record {
        segments = λ u x e. segment_on role f g le u x (λ o row is _. is) (r.segments u x e);
        windows = λ u x e. window_on role f g le u x (under_same f.segments x.seg.0) (r.windows u x e);
        types = typ;
        objects = λ u x e. object_on role f g le u x (live u x e) (under_same f.segments x.rep) (r.objects u x e);
        dirs = λ u x e. dir_on role f g le u x (dir u x e);
        boxes = λ u x e. box_on role f g le s u x (box u x e);
        codes = λ u x e. code_on role f g le s u x (code u x e);
      }

  dirs_rows : (dirs : Table Directory) (life : Table Kind) → ((u : ℕ) (x : Directory) → at dirs u ≡ Some x → IsSoundDirectory role f u x) → Rows s role (record f { dirs = dirs; life = life })
  dirs_rows dirs life d = others_rows f.types dirs life f.boxes f.codes r.types (λ u x e t. t) d r.boxes r.codes

  boxes_rows : (boxes : Table (List Word)) → ((u : ℕ) (x : List Word) → at boxes u ≡ Some x → IsSoundProcess s role f u x) → Rows s role (record f { boxes = boxes })
  boxes_rows boxes d = others_rows f.types f.dirs f.life boxes f.codes r.types (λ u x e t. t) r.dirs d r.codes

  codes_rows : (codes : Table CodeRow) → ((u : ℕ) (x : CodeRow) → at codes u ≡ Some x → IsSoundCode s role f u x) → Rows s role (record f { codes = codes })
  codes_rows codes d = others_rows f.types f.dirs f.life f.boxes codes r.types (λ u x e t. t) r.dirs r.boxes d

  types_rows : (types : Table Bool) → ((u : ℕ) (x : Bool) → at types u ≡ Some x → (u < f.next) × (role u ≡ roles.Typ))
      → ((u : ℕ) (x : Object) → at f.objects u ≡ Some x → IsSome (at f.types x.of) → IsSome (at types x.of)) → Rows s role (record f { types = types })
  types_rows types d live = others_rows types f.dirs f.life f.boxes f.codes d live r.dirs r.boxes r.codes

  -- ---- segments, windows and objects

  pub word_rows : (k i : ℕ) (w : Word) → Rows s role (record f { segments = edit f.segments k (λ x. record x { words = slice_set x.words i w }) })
  word_rows k i w =
      let put_in : Segment → Segment = λ x. record x { words = slice_set x.words i w } in
      let g : Flat = stored (edit f.segments k put_in) f.windows f.objects in
      let le : f.next ≤ g.next = omega arith in
      let same : (x : Segment) → length (put_in x).words ≡ length x.words = λ x. length-set x.words i w in
      let under = under_edit f.segments k put_in same (λ x. refl) in
      stored_rows (edit f.segments k put_in) f.windows f.objects
      (row_edited (λ v x. IsSoundSegment role g v x) f.segments k put_in
      (λ x e h. record { below = h.below; role-is = h.role-is; some = omega (arith, h.some, same x); few = omega (arith, h.few, same x); guard = h.guard })
      (λ u x e. segment_on role f g le u x (λ o row is _. is) (r.segments u x e)))
      (λ u x e. window_on role f g le u x (under x.seg.0) (r.windows u x e))
      (λ u x e. object_on role f g le u x (λ t. t) (under x.rep) (r.objects u x e))

  pub window_rows : (k : ℕ) (w : WinRow) → IsSoundWindow role f k w → Rows s role (record f { windows = put f.windows k w })
  window_rows k w new =
      let g : Flat = stored f.segments (put f.windows k w) f.objects in
      let le : f.next ≤ g.next = omega arith in
      let on : (u : ℕ) (x : WinRow) → IsSoundWindow role f u x → IsSoundWindow role g u x = λ u x. window_on role f g le u x (under_same f.segments x.seg.0) in
      stored_rows f.segments (put f.windows k w) f.objects
      (λ u x e. segment_on role f g le u x (λ o row is _. is) (r.segments u x e))
      (row_put (λ v x. IsSoundWindow role g v x) f.windows k w (on k w new) (λ u x e. on u x (r.windows u x e)))
      (λ u x e. object_on role f g le u x (λ t. t) (under_same f.segments x.rep) (r.objects u x e))

  pub segment_rows : (k size : ℕ) (guard : Rights) → at f.segments k ≡ None → k < f.next → role k ≡ roles.Segment → 1 ≤ size → size ≤ MOST_WORDS → IsGuard guard.0
      → Rows s role (record f { segments = put f.segments k (new_segment size guard) })
  segment_rows k size guard none below is some few good =
      let new : Segment = new_segment size guard in
      let g : Flat = stored (put f.segments k new) f.windows f.objects in
      let le : f.next ≤ g.next = omega arith in
      let under = under_put f.segments k new none in
      let long : length new.words ≡ size = length-replicate size (Data 0) in
      stored_rows (put f.segments k new) f.windows f.objects
      (row_put (λ v x. IsSoundSegment role g v x) f.segments k new
      (record { below = below; role-is = inl is; some = omega (arith, some, long); few = omega (arith, few, long); guard = good })
      (λ u x e. segment_on role f g le u x (λ o row is _. is) (r.segments u x e)))
      (λ u x e. window_on role f g le u x (under x.seg.0) (r.windows u x e))
      (λ u x e. object_on role f g le u x (λ t. t) (under x.rep) (r.objects u x e))

  pub object_rows : (k : ℕ) (o : Object) (size : ℕ) → at f.objects k ≡ None → at f.segments o.rep ≡ None → k < f.next → o.rep < f.next → role k ≡ roles.Object → role o.rep ≡ PartOf k
      → IsSome (at f.types o.of) → 1 ≤ size → size ≤ MOST_WORDS → IsGuard 1
      → Rows s role (record f { objects = put f.objects k o; segments = put f.segments o.rep (new_segment size (record { 0 = 1 })) })
  object_rows k o size no_object no_segment below rep_below is part typ some few good =
      let new : Segment = new_segment size (record { 0 = 1 }) in
      let g : Flat = stored (put f.segments o.rep new) f.windows (put f.objects k o) in
      let le : f.next ≤ g.next = omega arith in
      let under = under_put f.segments o.rep new no_segment in
      let long : length new.words ≡ size = length-replicate size (Data 0) in
      stored_rows (put f.segments o.rep new) f.windows (put f.objects k o)
      (row_put (λ v x. IsSoundSegment role g v x) f.segments o.rep new
      (record {
        below = rep_below;
        role-is = inr (record { object = k; row = o; part = part; live = at-put_here f.objects k o; rep = refl });
        some = omega (arith, some, long);
        few = omega (arith, few, long);
        guard = good;
      })
      (λ u x e. segment_on role f g le u x
      (λ v row is _. at-put_apart f.objects k o v (λ same. none-some row (sym no_object ∙ (ap (at f.objects) (sym same) ∙ is))) ∙ is)
      (r.segments u x e)))
      (λ u x e. window_on role f g le u x (under x.seg.0) (r.windows u x e))
      (row_put (λ v x. IsSoundObject role g v x) f.objects k o
      (record { below = below; role-is = is; typ = typ; part = part; rep = new; live = at-put_here f.segments o.rep new; guard = refl })
      (λ u x e. object_on role f g le u x (λ t. t) (under x.rep) (r.objects u x e)))

  -- a window that is left is over another segment
  not_over : (k u : ℕ) (x : WinRow) → at (windows_but f k) u ≡ Some x → (at f.windows u ≡ Some x) × (x.seg.0 ≡ k → ⊥)
  not_over k u x e =
      let was = row-kept (is_not_over k) f.windows u x e in
      (was.0, eqb-false x.seg.0 k (not-true (x.seg.0 == k) was.1))

  pub segment_gone_rows : (k : ℕ) → role k ≡ roles.Segment → Rows s role (record f { segments = without f.segments k; windows = windows_but f k })
  segment_gone_rows k is =
      let g : Flat = stored (without f.segments k) (windows_but f k) f.objects in
      let le : f.next ≤ g.next = omega arith in
      stored_rows (without f.segments k) (windows_but f k) f.objects
      (λ u x e. segment_on role f g le u x (λ o row is _. is) (r.segments u x (row-without f.segments k u x e).0))
      (λ u x e. let was = not_over k u x e in window_on role f g le u x (λ old there. under_without f.segments k x.seg.0 old was.1 there) (r.windows u x was.0))
      (λ u x e. let h = r.objects u x e in object_on role f g le u x (λ t. t) (λ old there. under_without f.segments k x.rep old (λ same. plain_part u (sym is ∙ (ap role (sym same) ∙ h.part))) there) h)
    where
      is_plain : Role → Bool
      is_plain roles.Segment = true
      is_plain _ = false

      plain_part : (u : ℕ) → roles.Segment ≡ PartOf u → ⊥
      plain_part u e = true≢false (ap is_plain e)

  -- an object goes with its representation, and with the windows over that
  pub object_gone_rows : (k : ℕ) (o : Object) → at f.objects k ≡ Some o → Rows s role (record f { objects = without f.objects k; segments = without f.segments o.rep; windows = windows_but f o.rep })
  object_gone_rows k o is =
      let g : Flat = stored (without f.segments o.rep) (windows_but f o.rep) (without f.objects k) in
      let le : f.next ≤ g.next = omega arith in
      stored_rows (without f.segments o.rep) (windows_but f o.rep) (without f.objects k)
      (λ u x e.
      let was = row-without f.segments o.rep u x e in
      segment_on role f g le u x (λ v row there rep. at-without_apart f.objects k v (λ same. was.1 (sym rep ∙ ap (λ (z : Object). z.rep) (same_Some row o (sym there ∙ (ap (at f.objects) same ∙ is))))) ∙ there) (r.segments u x was.0))
      (λ u x e. let was = not_over o.rep u x e in window_on role f g le u x (λ old there. under_without f.segments o.rep x.seg.0 old was.1 there) (r.windows u x was.0))
      (λ u x e.
      let was = row-without f.objects k u x e in
      let h = r.objects u x was.0 in
      object_on role f g le u x (λ t. t) (λ old there. under_without f.segments o.rep x.rep old (λ same. was.1 (ap of_object (sym h.part ∙ (ap role same ∙ (r.objects k o is).part)))) there) h)
    where
      of_object : Role → ℕ
      of_object (PartOf v) = v
      of_object _ = 0

  -- ---- types

  pub type_rows : (k : ℕ) → k < f.next → role k ≡ roles.Typ → Rows s role (record f { types = put f.types k true })
  type_rows k below is =
      types_rows (put f.types k true) (row_put (λ v x. (v < f.next) × (role v ≡ roles.Typ)) f.types k true (below, is) r.types)
      (λ u x e live. still x.of live)
    where
      still : (v : ℕ) → IsSome (at f.types v) → IsSome (at (put f.types k true) v)
      still v live = elim (cases_eq v k) [
        | inl same ↦ subst (λ z. IsSome (at (put f.types k true) z)) (sym same) (ap is_some (at-put_here f.types k true))
        | inr apart ↦ ap is_some (at-put_apart f.types k true v apart) ∙ live
      ]

  pub type_gone_rows : (k : ℕ) → has_objects f k ≡ false → Rows s role (record f { types = without f.types k })
  type_gone_rows k none =
      types_rows (without f.types k) (row_without (λ v x. (v < f.next) × (role v ≡ roles.Typ)) f.types k r.types)
      (λ u x e live. ap is_some (at-without_apart f.types k x.of (other u x e)) ∙ live)
    where
      is_of : Object → Bool
      is_of o = o.of == k

      other : (u : ℕ) (x : Object) → at f.objects u ≡ Some x → x.of ≡ k → ⊥
      other u x e same =
          let passes : at (kept is_of f.objects) u ≡ Some x = at-kept is_of f.objects u ∙ (ap (option_filter is_of) e ∙ ap (λ b. cond b (Some x) None) (eq-eqb x.of k same)) in
          let some = size-some (kept is_of f.objects) u x passes in
          true≢false (sym (lt-ltb 0 (size (kept is_of f.objects)) some) ∙ none)

  -- ---- procedure records

  pub code_rows : (k : ℕ) (c : CodeRow) → k < f.next → role k ≡ roles.Code → c.label < length s.codes → Rows s role (record f { codes = put f.codes k c })
  code_rows k c below is label =
      codes_rows (put f.codes k c) (row_put (λ v x. IsSoundCode s role f v x) f.codes k c (record { below = below; role-is = is; label = label }) r.codes)

  pub code_gone_rows : (k : ℕ) → Rows s role (record f { codes = without f.codes k })
  code_gone_rows k = codes_rows (without f.codes k) (row_without (λ v x. IsSoundCode s role f v x) f.codes k r.codes)

  -- ---- mailboxes

  pub post_rows : (k : ℕ) (w : Word) (box : List Word) → at f.boxes k ≡ Some box → length box < 8 → Rows s role (record f { boxes = edit f.boxes k (λ b. b ++ w ∷ []) })
  post_rows k w box is room = boxes_rows (edit f.boxes k (λ b. b ++ w ∷ [])) (row_edited (λ v x. IsSoundProcess s role f v x) f.boxes k (λ b. b ++ w ∷ [])
      (λ x e h.
      let same : length x ≡ length box = ap (λ (l : List Word). length l) (same_Some x box (sym e ∙ is)) in
      record { below = h.below; role-is = h.role-is; user = h.user; of_user = h.of_user; of_boot = h.of_boot; few = omega (arith, room, same, length-append x (w ∷ [])) })
      r.boxes)

  pub draw_rows : (k : ℕ) → Rows s role (record f { boxes = edit f.boxes k (drop 1) })
  draw_rows k = boxes_rows (edit f.boxes k (drop 1)) (row_edited (λ v x. IsSoundProcess s role f v x) f.boxes k (drop 1)
      (λ x e h. record { below = h.below; role-is = h.role-is; user = h.user; of_user = h.of_user; of_boot = h.of_boot; few = omega (arith, h.few, length-drop 1 x) })
      r.boxes)

  -- ---- directories

  pub entry_rows : (d : ℕ) (name : Name) (e : Named) (life : Table Kind) → ((x : Directory) → at f.dirs d ≡ Some x → len x.names < MOST_ENTRIES)
      → Rows s role (record f { dirs = edit f.dirs d (with_entry name e); life = life })
  entry_rows d name e life room = dirs_rows (edit f.dirs d (with_entry name e)) life (row_edited (λ v x. IsSoundDirectory role f v x) f.dirs d (with_entry name e)
      (λ x is h. record {
        below = h.below;
        role-is = h.role-is;
        rep_below = h.rep_below;
        hidden = h.hidden;
        guard = h.guard;
        few = omega (arith, room x is, one_more x.names name e);
      })
      r.dirs)

  pub no_entry_rows : (d : ℕ) (name : Name) (life : Table Kind) → Rows s role (record f { dirs = edit f.dirs d (without_entry name); life = life })
  no_entry_rows d name life = dirs_rows (edit f.dirs d (without_entry name)) life (row_edited (λ v x. IsSoundDirectory role f v x) f.dirs d (without_entry name)
      (λ x is h. record {
        below = h.below;
        role-is = h.role-is;
        rep_below = h.rep_below;
        hidden = h.hidden;
        guard = h.guard;
        few = omega (arith, h.few, one_fewer x.names name);
      })
      r.dirs)

  pub directory_rows : (k rep : ℕ) (guard : Rights) → k < f.next → role k ≡ roles.Directory → rep < f.next → role rep ≡ HiddenIn k → IsGuard guard.0
      → Rows s role (record f { dirs = put f.dirs k (record { guard = guard; rep = rep; names = empty }) })
  directory_rows k rep guard below is rep_below hidden good =
      dirs_rows (put f.dirs k (record { guard = guard; rep = rep; names = empty })) f.life (row_put (λ v x. IsSoundDirectory role f v x) f.dirs k (record { guard = guard; rep = rep; names = empty })
      (record { below = below; role-is = is; rep_below = rep_below; hidden = hidden; few = omega (arith, len-empty name_cmp Named); guard = good })
      r.dirs)

  pub directory_gone_rows : (k : ℕ) → Rows s role (record f { dirs = without f.dirs k })
  directory_gone_rows k = dirs_rows (without f.dirs k) f.life (row_without (λ v x. IsSoundDirectory role f v x) f.dirs k r.dirs)
