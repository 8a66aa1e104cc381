-- Rules for showing that an outcome is fair: refusals, tests, and the landings that requests have.
use Rattle.std.proofs.Common.{◌≡◌, ◌⊎◌, ℕ, Bool, true, false, ◌&&◌, cond, List, [], ◌∷◌, length, slice_get, Option, Some, None, option_map, option_and_then, refl, ap, subst, ◌∙◌, inl, inr, arith}
use Rattle.std.specs.Prelude.{bit_and}
use Rattle.std.specs.Option.{option_or}
use Rattle.std.specs.Int.{bit_at}
use Rattle.std.proofs.lemmas.Option.{same_Some, none-some}
use Rattle.std.proofs.lemmas.Bool.{eq-eqb, eqb-true}
use Rattle.std.proofs.lemmas.Nat.Bits.{bit_at_and, bit_at-lt}
use Rattle.psos_table.specs.Table.{at}
use Rattle.psos_caps.specs.Capability.{Capability, full}
use Rattle.psos_words.specs.declared.word.Word.{Word}
use Rattle.psos_words.specs.declared.word.Word.TheVariants.{Cap}
use Rattle.psos_words.specs.Words.{word_at}
use Rattle.psos_words.specs.Guard.{has_bit, missing}
use Rattle.psos_calls.specs.declared.frame.Frame.{Frame}
use Rattle.psos_calls.specs.declared.right.Right.{Right}
use Rattle.psos_calls.specs.declared.win_row.WinRow.{WinRow}
use Rattle.psos_calls.specs.Language.Views.{Shape, View, whole, through}
use Rattle.psos_calls.specs.Language.Capabilities.{uid}
use Rattle.psos_calls.specs.Language.Rights.{has}
use Rattle.psos_calls.specs.Language.Tests.{if_there}
use Rattle.psos_calls.specs.Language.User.{User, here, regs_in}
use Rattle.psos_model.specs.declared.place.Place.{Place}
use Rattle.psos_model.specs.declared.place.Place.TheVariants.{SegWord}
use Rattle.psos_model.specs.Flat.{Flat, Segment, flat_shape, flat_shapes, flat_view, words_of}
use Rattle.psos_model.specs.Flat.Places.{cap_in, cap_at, own_cap, is_own, guard_at, right_of, reg_place}
use Rattle.psos_model.specs.Answer.Outcomes.{Source, gives}
use Rattle.psos_model.proofs.OutcomeRules.{Refuses}
use Rattle.psos_laws.specs.Landings.{lands}
use Rattle.psos_laws.specs.Reads.{Leads, HasRight, MayRead, Contains, IsCopy}
use Rattle.psos_laws.proofs.Landings.{same_cap}
use Rattle.psos_laws.proofs.StepLaws.{Fair, Lawful, IsNew, IsCopyFrom, OnlyImpl}
use Rattle.psos_laws.proofs.UnchangedPlaces.{cap_own}

-- ---- rights and guards

pub contains_and : (a b : ℕ) → Contains a (bit_and a b)
contains_and a b k h = eq-eqb (bit_at a k) 1 (omega (arith, eqb-true (bit_at (bit_and a b) k) 1 h, bit_at_and a b k, bit_at-lt a k))

-- all rights pass each guard
pub full_passes : (guard u : ℕ) → missing guard (full u).rights ≡ None
full_passes guard u = three (has_bit guard 0) (has_bit guard 1) (has_bit guard 2)
  where
    three : (a b c : Bool) → cond {A = Option ℕ} (a && false) (Some 0) (cond (b && false) (Some 1) (cond (c && false) (Some 2) None)) ≡ None
    three true true true = refl
    three true true false = refl
    three true false true = refl
    three true false false = refl
    three false true true = refl
    three false true false = refl
    three false false true = refl
    three false false false = refl

-- ---- views

shape_guard : (f : Flat) (u : ℕ) (sh : Shape) → flat_shapes f u ≡ Some sh → option_map (λ (s : Segment). s.guard.0) (at f.segments u) ≡ Some sh.guard.0
shape_guard f u sh e = by_row (at f.segments u) e
  where
    by_row : (o : Option Segment) → option_map flat_shape o ≡ Some sh → option_map (λ (s : Segment). s.guard.0) o ≡ Some sh.guard.0
    by_row None g = absurd (none-some sh g)
    by_row (Some s) g = ap (λ (z : Shape). Some z.guard.0) (same_Some (flat_shape s) sh g)

-- the segment itself, or a window over it
record IsWhole (f : Flat) (u : ℕ) (v : View) : Type 0 where
  shape : Shape
  live : flat_shapes f u ≡ Some shape
  same : whole u shape ≡ v

record IsThrough (f : Flat) (u : ℕ) (v : View) : Type 0 where
  row : WinRow
  window : at f.windows u ≡ Some row
  shape : Shape
  live : flat_shapes f row.seg.0 ≡ Some shape
  same : through row shape ≡ v

seen : (f : Flat) (u : ℕ) (v : View) → flat_view f u ≡ Some v → IsWhole f u v ⊎ IsThrough f u v
seen f u v e = by_shape (flat_shapes f u) refl e
  where
    by_under : (w : WinRow) → at f.windows u ≡ Some w → (o : Option Shape) → flat_shapes f w.seg.0 ≡ o → option_map (through w) o ≡ Some v → IsThrough f u v
    by_under w is None live g = absurd (none-some v g)
    by_under w is (Some sh) live g = record { row = w; window = is; shape = sh; live = live; same = same_Some (through w sh) v g }

    by_window : (o : Option WinRow) → at f.windows u ≡ o → option_and_then (λ (w : WinRow). option_map (through w) (flat_shapes f w.seg.0)) o ≡ Some v → IsThrough f u v
    by_window None is g = absurd (none-some v g)
    by_window (Some w) is g = by_under w is (flat_shapes f w.seg.0) refl g

    by_shape : (o : Option Shape) → flat_shapes f u ≡ o → option_or (option_map (whole u) o) (option_and_then (λ (w : WinRow). option_map (through w) (flat_shapes f w.seg.0)) (at f.windows u)) ≡ Some v → IsWhole f u v ⊎ IsThrough f u v
    by_shape None live g = inr (by_window (at f.windows u) refl g)
    by_shape (Some sh) live g = inl (record { shape = sh; live = live; same = same_Some (whole u sh) v g })

pub view_leads : (f : Flat) (u : ℕ) (v : View) (i : ℕ) → flat_view f u ≡ Some v → Leads f u (SegWord (uid v.seg) i)
view_leads f u v i e = elim (seen f u v e) [
  | inl h ↦ inl (ap (λ (z : View). z.seg) h.same)
  | inr h ↦ inr (h.row, h.window, ap (λ (z : View). z.seg) h.same)
]

pub view_guard : (f : Flat) (u : ℕ) (v : View) (i : ℕ) → flat_view f u ≡ Some v → guard_at f (SegWord (uid v.seg) i) ≡ Some v.guard.0
view_guard f u v i e =
    let P : View → Type 0 = λ z. option_map (λ (s : Segment). s.guard.0) (at f.segments z.seg) ≡ Some z.guard.0 in
    elim (seen f u v e) [
      | inl h ↦ subst P h.same (shape_guard f u h.shape h.live)
      | inr h ↦ subst P h.same (shape_guard f h.row.seg.0 h.shape h.live)
    ]

pub words_cap : (f : Flat) (u i : ℕ) → cap_at f (SegWord (uid u) i) ≡ cap_in (word_at (words_of f u) i)
words_cap f u i = by_row (at f.segments u)
  where
    by_row : (o : Option Segment) → option_and_then (λ (s : Segment). cap_in (word_at s.words i)) o ≡ cap_in (word_at (if_there o [] (λ s. s.words)) i)
    by_row None = refl
    by_row (Some s) = refl

-- ---- the user's own places

own_reg : (x : User) (frames : List Frame) (i : ℕ) → is_own (reg_place x frames i) x.number ≡ true
own_reg x [] i = eq-eqb x.number x.number refl
own_reg x (q ∷ outer) i = eq-eqb x.number x.number refl

reg_holds : (x : User) (frames : List Frame) (i : ℕ) → own_cap (record x { frames = frames }) (reg_place (record x { frames = frames }) frames i) ≡ cap_in (word_at (regs_in frames x.regs) i)
reg_holds x [] i = refl
reg_holds x (q ∷ outer) i = rw (eq-eqb (length outer) (length outer) refl) refl

module _ (f : Flat) (x : User) (is : slice_get f.users x.number ≡ Some x) where
  pub is_mine : (i : ℕ) → is_own (reg_place x x.frames i) x.number ≡ true
  is_mine i = own_reg x x.frames i

  pub held_reg : (i : ℕ) (c : Capability) → word_at (here x) i ≡ Cap c → cap_at f (reg_place x x.frames i) ≡ Some c
  held_reg i c e = cap_own f x.number x (reg_place x x.frames i) is (is_mine i) ∙ (reg_holds x x.frames i ∙ ap cap_in e)

  -- a word of a register is a copy from there
  pub own_copy : (i : ℕ) (c : Capability) → word_at (here x) i ≡ Cap c → IsCopy f x.number c (reg_place x x.frames i) None
  own_copy i c e = record { old = c; held = held_reg i c e; same = refl; rights = λ k h. h; read = inl (is_mine i) }

  -- what a capability in a register leads to is read by its right
  pub reader : (i : ℕ) (c : Capability) → word_at (here x) i ≡ Cap c → (right : Right) → has c right ≡ true → (q : Place) → right_of q ≡ Some right → Leads f c.uid q → MayRead f x.number q (Some right)
  reader i c e right may q fits leads =
      let has_right : HasRight f x.number right q = record { from = reg_place x x.frames i; cap = c; own = is_mine i; held = held_reg i c e; allowed = may; leads = leads } in
      (fits, has_right)

  -- ---- landings

  -- in a register
  pub in_reg : (next rd : ℕ) (w : Word) (source : Option Source) → ((c : Capability) → w ≡ Cap c → IsNew f next c ⊎ IsCopyFrom f x.number c source) → Lawful f next x.number (lands (reg_place x x.frames rd) w source)
  in_reg next rd w source h c e = record { from = h c e; admits = inl (is_mine rd) }

  -- in a store
  pub in_store : (next : ℕ) (p : Place) (w : Word) (source : Option Source) (guard : ℕ) → guard_at f p ≡ Some guard
      → ((c : Capability) → w ≡ Cap c → (IsNew f next c ⊎ IsCopyFrom f x.number c source) × (missing guard c.rights ≡ None)) → Lawful f next x.number (lands p w source)
  in_store next p w source guard is_guard good c e = record { from = (good c e).0; admits = inr (guard, is_guard, (good c e).1) }

  pub new_reg : (next rd new : ℕ) (source : Option Source) → IsNew f next (full new) → Lawful f next x.number (lands (reg_place x x.frames rd) (Cap (full new)) source)
  new_reg next rd new source h = in_reg next rd (Cap (full new)) source (λ c e. inl (subst (IsNew f next) (same_cap (full new) c e) h))

  pub new_store : (next : ℕ) (p : Place) (new : ℕ) (source : Option Source) (guard : ℕ) → guard_at f p ≡ Some guard → IsNew f next (full new) → Lawful f next x.number (lands p (Cap (full new)) source)
  new_store next p new source guard is_guard h = in_store next p (Cap (full new)) source guard is_guard (λ c e.
      (inl (subst (IsNew f next) (same_cap (full new) c e) h), subst (λ (k : Capability). missing guard k.rights ≡ None) (same_cap (full new) c e) (full_passes guard new)))

  -- a capability on another identifier is not on this representation
  pub not_rep : (o rep new : ℕ) (p : Place) (source : Option Source) → (new ≡ rep → ⊥) → OnlyImpl o rep (lands p (Cap (full new)) source)
  not_rep o rep new p source apart c e same = absurd (apart (ap (λ (k : Capability). k.uid) (same_cap (full new) c e) ∙ same))

  -- ---- what makes no change

  pub refused : Refuses (Fair f x)
  refused = record { refused = λ r. record { short = refl; safe = tt; lawful = tt; windows = λ w y h. absurd h; objects = λ v y h. absurd h; dirs = λ d rep h. absurd h } }

  -- a word goes into a register, and no change is made
  pub word_goes : (rd : ℕ) (w : Word) (source : Option Source) → ((c : Capability) → w ≡ Cap c → IsCopyFrom f x.number c source) → Fair f x (gives [] rd w source)
  word_goes rd w source h = record { short = refl; safe = tt; lawful = (in_reg f.next rd w source (λ c e. inr (h c e)), tt); windows = λ w y h. absurd h; objects = λ v y h. absurd h; dirs = λ d rep h. absurd h }
