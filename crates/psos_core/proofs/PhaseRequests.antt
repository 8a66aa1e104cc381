-- Requests by phases.
use Rattle.std.proofs.Common.{◌≡◌, ℕ, zero, suc, ◌+◌, ◌-◌, ◌<◌, ◌≤◌, Bool, true, false, cond, ltb, get_or, List, [], ◌∷◌, length, Option, Some, None, refl, sym, ap, ◌∙◌, ◌⊎◌, inl, inr, subst, arith}
use Rattle.std.specs.Prelude.{option_map, slice_get, sum_by}
use Rattle.std.specs.List.{flat_map}
use Rattle.std.proofs.lemmas.Bool.{le-ltb, ltb-false, cases_lt}
use Rattle.std.proofs.lemmas.Option.{same_Some, none-some}
use Rattle.std.proofs.lemmas.List.{length-append}
use Rattle.std.proofs.lemmas.List.Sums.{sum_by-cons}
use Rattle.psos_calls.specs.declared.request.Request.{Request}
use Rattle.psos_model.specs.Run.{phase_at}
use Rattle.psos_calls.proofs.PhasePlaces.{get-append_left, get-append_right}
use Rattle.psos_core.specs.UnderWay.{asked_before, AtLeast}

-- ---- how many requests stand before a phase

-- they are requests of the user
pub asked_all : (phases : List (List Request)) (p : ℕ) → asked_before phases p ≤ length (flat_map (λ x. x) phases)
asked_all phases zero = omega arith
asked_all [] (suc p) = omega arith
asked_all (x ∷ xs) (suc p) = omega (arith, asked_all xs p, length-append x (flat_map (λ x. x) xs))

-- and not more than are counted with the `phase` lines
pub asked_few : (phases : List (List Request)) (p : ℕ) → asked_before phases p ≤ sum_by (λ p. length p + 1) phases
asked_few phases zero = omega arith
asked_few [] (suc p) = omega arith
asked_few (x ∷ xs) (suc p) = omega (arith, asked_few xs p, sum_by-cons (λ (p : List Request). length p + 1) x xs)

-- a phase more
pub asked_more : (phases : List (List Request)) (p : ℕ) → asked_before phases (p + 1) ≡ asked_before phases p + length (get_or phases p [])
asked_more [] zero = refl
asked_more [] (suc p) =
    let next : suc p + 1 ≡ suc (p + 1) = omega arith in
    ap (asked_before []) next
asked_more (x ∷ xs) zero = omega arith
asked_more (x ∷ xs) (suc p) =
    let next : suc p + 1 ≡ suc (p + 1) = omega arith in
    omega (arith, ap (asked_before (x ∷ xs)) next, asked_more xs p)

-- a request of phase p, by its place in the phase
pub asked_here : (phases : List (List Request)) (p k : ℕ) → asked_before phases p ≤ k → k < asked_before phases (p + 1)
    → slice_get (flat_map (λ x. x) phases) k ≡ slice_get (get_or phases p []) (k - asked_before phases p)
asked_here [] zero k low high = absurd (omega (arith, high))
asked_here [] (suc p) k low high = absurd (omega (arith, high, asked_more [] (suc p)))
asked_here (x ∷ xs) zero k low high =
    let same : k ≡ k - 0 = omega arith in
    get-append_left x (flat_map (λ x. x) xs) k (omega (arith, high)) ∙ ap (slice_get x) same
asked_here (x ∷ xs) (suc p) k low high =
    let next : suc p + 1 ≡ suc (p + 1) = omega arith in
    let past : k ≡ length x + (k - length x) = omega (arith, low) in
    let rest : k - length x - asked_before xs p ≡ k - (length x + asked_before xs p) = omega arith in
    get-append_right x (flat_map (λ x. x) xs) k (k - length x) past
    ∙ asked_here xs p (k - length x) (omega (arith, low)) (omega (arith, high, ap (asked_before (x ∷ xs)) next, past))
    ∙ ap (slice_get (get_or xs p [])) rest

pub phases_few : (phases : List (List Request)) → length phases ≤ sum_by (λ p. length p + 1) phases
phases_few [] = omega arith
phases_few (x ∷ xs) = omega (arith, phases_few xs, sum_by-cons (λ (p : List Request). length p + 1) x xs)

-- ---- the phase of a request

later : (p : ℕ) (o : Option ℕ) → AtLeast p o → AtLeast (suc p) (option_map (λ q. q + 1) o)
later p None h = tt
later p (Some q) h = omega arith

pub at_zero : (o : Option ℕ) → AtLeast 0 o
at_zero None = tt
at_zero (Some q) = omega arith

-- past the requests before phase p there is no earlier phase
pub phase_low : (phases : List (List Request)) (p k : ℕ) → asked_before phases p ≤ k → AtLeast p (phase_at phases k)
phase_low phases zero k h = at_zero (phase_at phases k)
phase_low [] (suc p) k h = tt
phase_low (x ∷ xs) (suc p) k h =
    let not_here : ltb k (length x) ≡ false = le-ltb k (length x) (omega arith) in
    let P : Bool → Type 0 = λ b. AtLeast (suc p) (cond b (Some 0) (option_map (λ q. q + 1) (phase_at xs (k - length x)))) in
    subst P (sym not_here) (later p (phase_at xs (k - length x)) (phase_low xs p (k - length x) (omega arith)))

-- a request in an earlier phase than p
pub record IsBefore (p : ℕ) (o : Option ℕ) : Type 0 where
  pub phase : ℕ
  pub is : o ≡ Some phase
  pub less : phase < p

one_later : (p : ℕ) (o : Option ℕ) → IsBefore p o → IsBefore (suc p) (option_map (λ q. q + 1) o)
one_later p o h = record { phase = h.phase + 1; is = ap (λ (o : Option ℕ). option_map (λ q. q + 1) o) h.is; less = omega (arith, h.less) }

-- each of the requests before phase p is
pub phase_high : (phases : List (List Request)) (p k : ℕ) → k < asked_before phases p → IsBefore p (phase_at phases k)
phase_high phases zero k h = absurd (omega (arith, h))
phase_high [] (suc p) k h = absurd (omega (arith, h))
phase_high (x ∷ xs) (suc p) k h = by_test (ltb k (length x)) refl (λ past. one_later p (phase_at xs (k - length x)) (phase_high xs p (k - length x) (omega (arith, h, past))))
  where
    by_test : (b : Bool) → ltb k (length x) ≡ b → (length x ≤ k → IsBefore (suc p) (option_map (λ q. q + 1) (phase_at xs (k - length x))))
        → IsBefore (suc p) (cond (ltb k (length x)) (Some 0) (option_map (λ q. q + 1) (phase_at xs (k - length x))))
    by_test true e rest = record {
      phase = 0;
      is = ap (λ (b : Bool). cond b (Some 0) (option_map (λ q. q + 1) (phase_at xs (k - length x)))) e;
      less = omega arith;
    }
    by_test false e rest =
        let P : Bool → Type 0 = λ b. IsBefore (suc p) (cond b (Some 0) (option_map (λ q. q + 1) (phase_at xs (k - length x)))) in
        subst P (sym e) (rest (ltb-false k (length x) e))

-- the next request is in no earlier phase
pub phase_next : (phases : List (List Request)) (p k : ℕ) → phase_at phases k ≡ Some p → AtLeast p (phase_at phases (k + 1))
phase_next phases p k e = by_order (cases_lt k (asked_before phases p))
  where
    by_order : (k < asked_before phases p) ⊎ (asked_before phases p ≤ k) → AtLeast p (phase_at phases (k + 1))
    by_order (inl less) =
        let early = phase_high phases p k less in
        absurd (omega (arith, early.less, same_Some early.phase p (sym early.is ∙ e)))
    by_order (inr past) = phase_low phases p (k + 1) (omega (arith, past))

-- a phase is one of the user's
pub phase_within : (phases : List (List Request)) (k p : ℕ) → phase_at phases k ≡ Some p → p < length phases
phase_within [] k p e = absurd (none-some p e)
phase_within (x ∷ xs) k p e = by_test (ltb k (length x)) (phase_at xs (k - length x)) (phase_within xs (k - length x)) e
  where
    by_test : (b : Bool) (o : Option ℕ) → ((q : ℕ) → o ≡ Some q → q < length xs) → cond b (Some 0) (option_map (λ q. q + 1) o) ≡ Some p → p < length (x ∷ xs)
    by_test true o rest e = omega (arith, same_Some 0 p e)
    by_test false None rest e = absurd (none-some p e)
    by_test false (Some q) rest e = omega (arith, rest q refl, same_Some (q + 1) p e)
