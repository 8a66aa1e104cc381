-- What a script's users ask is short, and when none of them has a request left.
use Rattle.std.proofs.Common.{◌≡◌, ℕ, zero, suc, ◌+◌, ◌≤◌, Bool, true, false, List, [], ◌∷◌, length, refl, subst, arith}
use Rattle.std.specs.Prelude.{◌&&◌, not, sum_by, slice_get, IsTrue, cond, ⊤}
use Rattle.std.specs.List.{AllByRecursion, flat_map, list_all}
use Rattle.std.proofs.lemmas.List.Sums.{sum_by-cons}
use Rattle.std.proofs.lemmas.List.{length-append}
use Rattle.psos_calls.specs.declared.request.Request.{Request}
use Rattle.psos_calls.specs.Language.Script.{UserScript, IsUserScript}
use Rattle.psos_calls.specs.Language.Tests.{if_there}
use Rattle.psos_model.specs.Flat.Within.{IsShort}

fewer : (ps : List (List Request)) → length (flat_map (λ p. p) ps) ≤ sum_by (λ p. length p + 1) ps
fewer [] = omega arith
fewer (p ∷ ps) =
    let front = length-append p (flat_map (λ p. p) ps) in
    let sum = sum_by-cons (λ (p : List Request). length p + 1) p ps in
    omega (arith, front, sum, fewer ps)

pub are_short : (blocks : ℕ) (users : List UserScript) → AllByRecursion (IsUserScript blocks) users → AllByRecursion IsShort users
are_short blocks [] h = h
are_short blocks (user ∷ users) h = (omega (arith, fewer user.phases, h.0.few), are_short blocks users h.1)

module _ {X : Type 0} (test : X → Bool) where
  -- no element passes a test
  abbrev pub fails : X → Bool
  fails x = not (test x)

  no_one : (b c : Bool) → IsTrue (not b && c) → (b ≡ false) × IsTrue c
  no_one false c h = (refl, h)
  no_one true c h = absurd (subst (λ b. cond b ⊥ ⊤) h tt)

  pub none_passes : (xs : List X) → IsTrue (list_all fails xs) → (u : ℕ) → if_there (slice_get xs u) false test ≡ false
  none_passes [] h u = refl
  none_passes (x ∷ xs) h zero = (no_one (test x) (list_all fails xs) h).0
  none_passes (x ∷ xs) h (suc u) = none_passes xs (no_one (test x) (list_all fails xs) h).1 u

  both : (b c : Bool) → b ≡ false → IsTrue c → IsTrue (not b && c)
  both false c e h = h
  both true c e h = absurd (subst (λ b. cond b ⊤ ⊥) e tt)

  pub all_fail : (xs : List X) → ((u : ℕ) → if_there (slice_get xs u) false test ≡ false) → IsTrue (list_all fails xs)
  all_fail [] h = refl
  all_fail (x ∷ xs) h = both (test x) (list_all fails xs) (h 0) (all_fail xs (λ u. h (suc u)))
