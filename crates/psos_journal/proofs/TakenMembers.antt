-- The first elements of a list.
use Rattle.std.proofs.Common.{◌≡◌, ℕ, zero, suc, List, [], ◌∷◌, take, slice_get, Some}

-- each of the first elements is one of all
pub taken_is : {A : Type 0} (xs : List A) (n k : ℕ) (x : A) → slice_get (take n xs) k ≡ Some x → slice_get xs k ≡ Some x
taken_is [] zero k x e = absurd (cc e)
taken_is [] (suc n) k x e = absurd (cc e)
taken_is (y ∷ ys) zero k x e = absurd (cc e)
taken_is (y ∷ ys) (suc n) zero x e = e
taken_is (y ∷ ys) (suc n) (suc k) x e = taken_is ys n k x e
