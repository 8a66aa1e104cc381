-- Lists of words that are read one by one, and the registers of open bodies.
use Rattle.std.proofs.Common.{◌≡◌, ◌⊎◌, ℕ, cond, ◌+◌, ◌*◌, ◌<◌, ◌≤◌, List, [], ◌∷◌, length, slice_get, slice_set, Option, Some, None, option_and_then, refl, sym, ap, ◌∙◌, inl, inr, arith}
use Rattle.std.specs.Prelude.{slice_index_or}
use Rattle.std.proofs.lemmas.Bool.{cases_eq, eq-eqb, ne_eqb}
use Rattle.std.proofs.lemmas.List.{get_or-set_other, get_or_past}
use Rattle.std.proofs.lemmas.Grind.{get_or-set_at}
use Rattle.psos_caps.specs.Capability.{Capability}
use Rattle.psos_words.specs.declared.word.Word.{Word}
use Rattle.psos_words.specs.declared.word.Word.TheVariants.{Data}
use Rattle.psos_words.specs.Words.{word_at}
use Rattle.psos_calls.specs.declared.frame.Frame.{Frame}
use Rattle.psos_calls.specs.Language.User.{User}
use Rattle.psos_model.specs.declared.place.Place.TheVariants.{FrameReg}
use Rattle.psos_model.specs.Flat.Places.{cap_in, own_cap, frame_at}
use Rattle.psos_laws.specs.Arrivals.{AreFull, AreCallers}
use Rattle.psos_laws.proofs.OwnArrivals.{no_frame}

-- one word more agrees
pub one_more : (ws h : List Word) (i : ℕ) (w : Word) → i < length ws → ((k : ℕ) → k < i → word_at ws k ≡ word_at h k) → word_at h i ≡ w
    → (k : ℕ) → k < i + 1 → word_at (slice_set ws i w) k ≡ word_at h k
one_more ws h i w within same is k below = elim (cases_eq k i) [
  | inl e ↦ get_or-set_at ws i k w (Data 0) e within ∙ (sym is ∙ ap (word_at h) (sym e))
  | inr apart ↦ get_or-set_other ws i k w (Data 0) apart ∙ same k (omega (arith, below, apart))
]

abbrev in_frame : ℕ → Option Frame → Option Capability
in_frame i o = option_and_then (λ (q : Frame). cap_in (word_at q.regs i)) o

abbrev in_user : ℕ → ℕ → ℕ → Option User → Option Capability
in_user u depth i o = option_and_then (λ (x : User). own_cap x (FrameReg u depth i)) o

past_end : (i : ℕ) (o : Option Frame) → ((q : Frame) → o ≡ Some q → length q.regs ≡ 16) → 16 ≤ i → None ≡ in_frame i o
past_end i None all high = refl
past_end i (Some q) all high =
    let sixteen = all q refl in
    sym (ap cap_in (get_or_past q.regs i (Data 0) (omega (arith, sixteen, high))))

-- no register of an open body
pub no_register : (users : List User) (u depth i : ℕ) (x : User) → Some x ≡ slice_get users u → AreFull users → (16 ≤ i) ⊎ (length x.frames ≤ depth)
    → None ≡ in_user u depth i (slice_get users u)
no_register users u depth i x there full (inl high) =
    past_end i (frame_at x.frames depth) (λ q e. (full.each u x (sym there)).frames depth q e) high ∙ ap (in_user u depth i) there
no_register users u depth i x there full (inr none) = ap (in_frame i) (sym (no_frame x.frames depth none)) ∙ ap (in_user u depth i) there

-- a body that is open, by its depth
pub frame_there : (frames : List Frame) (depth : ℕ) → depth < length frames → (q : Frame) × (frame_at frames depth ≡ Some q)
frame_there [] depth below = absurd (omega (arith, below))
frame_there (q ∷ outer) depth below = elim (cases_eq depth (length outer)) [
  | inl e ↦ (q, ap (λ b. cond b (Some q) (frame_at outer depth)) (eq-eqb depth (length outer) e))
  | inr apart ↦
      let rest = frame_there outer depth (omega (arith, below, apart)) in
      (rest.0, ap (λ b. cond b (Some q) (frame_at outer depth)) (ne_eqb depth (length outer) apart) ∙ rest.1)
]

-- the register of an open body that is not the innermost
pub caller_register : (users : List User) (callers : List (List Word)) (u depth i : ℕ) (x : User) → Some x ≡ slice_get users u → AreCallers users callers
    → depth + 1 < length x.frames → i < 16
    → cap_in (word_at (slice_index_or callers (4 * u + depth) []) i) ≡ in_user u depth i (slice_get users u)
caller_register users callers u depth i x there are inner low =
    let open_one = frame_there x.frames depth (omega (arith, inner)) in
    ap cap_in (are u depth x open_one.0 (sym there) open_one.1 inner i low)
    ∙ (ap (in_frame i) (sym open_one.1) ∙ ap (in_user u depth i) there)
