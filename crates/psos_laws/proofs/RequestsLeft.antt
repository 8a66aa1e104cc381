-- Who has a request left asks something, and has room for its count. States docs/promises.md, "Runs".
use Rattle.std.proofs.Common.{◌≡◌, ℕ, ◌+◌, ◌-◌, ◌<◌, ◌≤◌, Bool, true, false, cond, List, [], ◌∷◌, ◌++◌, length, nat_lt, Option, Some, None, refl, sym, ap, subst, ◌∙◌, arith, length-append}
use Rattle.std.specs.Prelude.{⊤, ◌||◌, slice_get, option_map}
use Rattle.std.specs.List.{flat_map}
use Rattle.std.proofs.lemmas.Bool.{ltb-true, ltb-false}
use Rattle.std.proofs.lemmas.Option.{none-some}
use Rattle.psos_calls.specs.declared.request.Request.{Request}
use Rattle.psos_calls.specs.Language.Script.{Script, requests_of, user_script}
use Rattle.psos_calls.specs.Language.User.{User}
use Rattle.psos_calls.specs.Language.Tests.{if_there}
use Rattle.psos_model.specs.Run.{phase_at, phase_in, current_phase, is_now, is_open, is_left, has_left}

-- ---- phases

-- a request with a phase is one of the user's
phase_within : (phases : List (List Request)) (k p : ℕ) → phase_at phases k ≡ Some p → k < length (flat_map (λ q. q) phases)
phase_within [] k p e = absurd (none-some p e)
phase_within (phase ∷ later) k p e = by_test (phase_within later (k - length phase)) (nat_lt k (length phase)) refl e
  where
    whole : length (phase ++ flat_map (λ q. q) later) ≡ length phase + length (flat_map (λ q. q) later)
    whole = length-append phase (flat_map (λ q. q) later)

    by_later : ((q : ℕ) → phase_at later (k - length phase) ≡ Some q → k - length phase < length (flat_map (λ q. q) later)) → length phase ≤ k
        → (o : Option ℕ) → phase_at later (k - length phase) ≡ o → option_map (λ q. q + 1) o ≡ Some p → k < length (phase ++ flat_map (λ q. q) later)
    by_later rest past None is e = absurd (none-some p e)
    by_later rest past (Some q) is e =
        let inside = rest q is in
        omega (arith, whole, past, inside)

    by_test : ((q : ℕ) → phase_at later (k - length phase) ≡ Some q → k - length phase < length (flat_map (λ q. q) later))
        → (b : Bool) → nat_lt k (length phase) ≡ b → cond b (Some 0) (option_map (λ q. q + 1) (phase_at later (k - length phase))) ≡ Some p → k < length (phase ++ flat_map (λ q. q) later)
    by_test rest true t e =
        let first = ltb-true k (length phase) t in
        omega (arith, whole, first)
    by_test rest false t e = by_later rest (ltb-false k (length phase) t) (phase_at later (k - length phase)) refl e

-- past all requests there is no phase, and only there
pub phase_past : (phases : List (List Request)) (k : ℕ) → phase_at phases k ≡ None → length (flat_map (λ q. q) phases) ≤ k
phase_past [] k e = omega arith
phase_past (phase ∷ later) k e = by_test (phase_past later (k - length phase)) (nat_lt k (length phase)) refl e
  where
    whole : length (phase ++ flat_map (λ q. q) later) ≡ length phase + length (flat_map (λ q. q) later)
    whole = length-append phase (flat_map (λ q. q) later)

    none_later : (o : Option ℕ) → option_map (λ q. q + 1) o ≡ None → o ≡ None
    none_later None e = refl
    none_later (Some q) e = absurd (none-some (q + 1) (sym e))

    by_test : (phase_at later (k - length phase) ≡ None → length (flat_map (λ q. q) later) ≤ k - length phase)
        → (b : Bool) → nat_lt k (length phase) ≡ b → cond b (Some 0) (option_map (λ q. q + 1) (phase_at later (k - length phase))) ≡ None → length (phase ++ flat_map (λ q. q) later) ≤ k
    by_test rest true t e = absurd (none-some 0 (sym e))
    by_test rest false t e =
        let past = ltb-false k (length phase) t in
        let inside = rest (none_later (phase_at later (k - length phase)) e) in
        omega (arith, whole, past, inside)

-- ---- who has a request left

-- a phase that is the current one
now_some : (p q : Option ℕ) → is_now p q ≡ true → (n : ℕ) × (p ≡ Some n)
now_some None q e = absurd (subst (λ b. cond b ⊥ ⊤) e tt)
now_some (Some n) q e = (n, refl)

-- outside of bodies, who has a request left has a script request left
pub left_within : (s : Script) (users : List User) (x : User) → x.frames ≡ [] → is_left s users x ≡ true → x.answered < length (requests_of (user_script s x.number))
left_within s users x none left =
    let now : is_now (phase_in s x []) (current_phase s users) ≡ true = subst (λ fs. (is_open fs || is_now (phase_in s x fs) (current_phase s users)) ≡ true) none left in
    let found = now_some (phase_in s x []) (current_phase s users) now in
    phase_within (user_script s x.number).phases x.answered found.0 found.1

-- a user that is there
pub has_user : (s : Script) (users : List User) (u : ℕ) (x : User) → slice_get users u ≡ Some x → has_left s users u ≡ true → is_left s users x ≡ true
has_user s users u x there left = sym (ap (λ o. if_there o false (λ x. is_left s users x)) there) ∙ left
