-- The first user with a request left.
use Rattle.std.proofs.Common.{◌≡◌, ℕ, zero, suc, ◌+◌, ◌<◌, ◌≤◌, false, List, length, Option, refl, ap, ◌∙◌, ◌⊎◌, inl, inr, arith}
use Rattle.std.proofs.lemmas.Option.{slice_get_past}
use Rattle.psos_calls.specs.Language.Script.{Script}
use Rattle.psos_calls.specs.Language.User.{User}
use Rattle.psos_calls.specs.Language.Tests.{if_there}
use Rattle.psos_model.specs.Run.{is_left, has_left}

-- none of the users before u has a request left
pub record NoneBelow (s : Script) (users : List User) (u : ℕ) : Type 0 where
  pub each : (v : ℕ) → v < u → has_left s users v ≡ false

-- one more
pub none_next : (s : Script) (users : List User) (u : ℕ) → NoneBelow s users u → has_left s users u ≡ false → NoneBelow s users (u + 1)
none_next s users u below here = record { each = λ v h. by_order v h (split v u h) }
  where
    split : (v u : ℕ) → v < u + 1 → (v < u) ⊎ (v ≡ u)
    split zero zero h = inr refl
    split zero (suc u) h = inl (omega arith)
    split (suc v) zero h = absurd (omega (arith, h))
    split (suc v) (suc u) h = elim (split v u (omega (arith, h))) [ inl less ↦ inl (omega (arith, less)) | inr same ↦ inr (ap suc same) ]

    by_order : (v : ℕ) → v < u + 1 → (v < u) ⊎ (v ≡ u) → has_left s users v ≡ false
    by_order v h (inl less) = below.each v less
    by_order v h (inr same) = ap (has_left s users) same ∙ here

-- none at all
pub none_left : (s : Script) (users : List User) (n : ℕ) → length users ≤ n → NoneBelow s users n → (u : ℕ) → has_left s users u ≡ false
none_left s users n all below u = by_order (split u n)
  where
    split : (v u : ℕ) → (v < u) ⊎ (u ≤ v)
    split v zero = inr (omega arith)
    split zero (suc u) = inl (omega arith)
    split (suc v) (suc u) = elim (split v u) [ inl less ↦ inl (omega (arith, less)) | inr more ↦ inr (omega (arith, more)) ]

    by_order : (u < n) ⊎ (n ≤ u) → has_left s users u ≡ false
    by_order (inl less) = below.each u less
    by_order (inr more) =
        let h : length users ≤ u = omega (arith, all, more) in
        ap (λ (o : Option User). if_there o false (λ x. is_left s users x)) (slice_get_past users u h)
