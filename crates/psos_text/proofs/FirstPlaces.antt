-- Where the first element stands that passes a test.
use Rattle.std.proofs.Common.{◌≡◌, ℕ, ◌+◌, ◌<◌, ◌≤◌, Bool, true, false, cond, eqb, not, suc, List, [], ◌∷◌, length, get_or, take, drop, sym, ap, arith}
use Rattle.std.specs.List.{position_or_len}
use Rattle.std.proofs.lemmas.List.Sums.{position_or_len_is}

-- the byte is this one
abbrev pub is_byte : ℕ → ℕ → Bool
is_byte sep b = eqb b sep

-- the byte is another
abbrev pub is_other : ℕ → ℕ → Bool
is_other sep b = not (eqb b sep)

-- no byte before i passes
pub record NoneBefore (p : ℕ → Bool) (text : List ℕ) (i : ℕ) : Type 0 where
  pub within : i ≤ length text
  pub none : (k : ℕ) → k < i → p (get_or text k 0) ≡ false

-- a byte that passes, after none that does, is the first
pub first_is : (p : ℕ → Bool) (text : List ℕ) (i : ℕ) → i < length text → p (get_or text i 0) ≡ true → NoneBefore p text i → i ≡ position_or_len p text
first_is p text i lt e h = sym (position_or_len_is p text i 0 h.within h.none (λ _. e))

-- none passes
pub none_is : (p : ℕ → Bool) (text : List ℕ) (i : ℕ) → length text ≤ i → NoneBefore p text i → length text ≡ position_or_len p text
none_is p text i le h =
    let same : i ≡ length text = omega (arith, h.within) in
    sym (position_or_len_is p text (length text) 0 (omega arith) (λ k lt. h.none k (omega (arith, same))) (λ lt. absurd (omega arith)))

-- one more is taken
pub take_cons : {X : Type 0} (n : ℕ) (x : X) (xs : List X) → take (1 + n) (x ∷ xs) ≡ x ∷ take n xs
take_cons n x xs = ap (λ (m : ℕ). take m (x ∷ xs)) (let e : 1 + n ≡ suc n = omega arith in e)

-- one more is dropped
pub drop_cons : {X : Type 0} (n : ℕ) (x : X) (xs : List X) → drop (1 + n) (x ∷ xs) ≡ drop n xs
drop_cons n x xs = ap (λ (m : ℕ). drop m (x ∷ xs)) (let e : 1 + n ≡ suc n = omega arith in e)

cond_le : (t : Bool) (n m : ℕ) → n ≤ m → cond (not t) (1 + n) 0 ≤ m + 1
cond_le true n m h = omega arith
cond_le false n m h = omega (arith, h)

-- it stands within the text, or at its end
pub position_or_len-le : (p : ℕ → Bool) (text : List ℕ) → position_or_len p text ≤ length text
position_or_len-le p [] = omega arith
position_or_len-le p (b ∷ bs) = omega (arith, cond_le (p b) (position_or_len p bs) (length bs) (position_or_len-le p bs))
