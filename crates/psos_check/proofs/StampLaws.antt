-- Where each number below the number of lines is the stamp of one line, there is no other stamp.
use Rattle.std.proofs.Common.{◌≡◌, ℕ, ◌+◌, ◌<◌, Bool, true, false, cond, eqb, ltb, zero, suc, List, [], ◌∷◌, length, inl, inr, refl, sym, ◌∙◌, arith}
use Rattle.std.specs.Prelude.{count_by}
use Rattle.std.specs.List.{AllByRecursion}
use Rattle.std.proofs.lemmas.Bool.{cases_lt, ltb-true, lt-ltb, le-ltb, eq-eqb, ne_eqb}
use Rattle.std.proofs.lemmas.List.Sums.{sum_by-cons, count_by-le-length}
use Rattle.psos_check.specs.declared.stamped.Stamped.{Stamped}
use Rattle.psos_check.specs.Order.{count_at, HasEachStamp}

-- how many lines have a stamp below n
abbrev below : ℕ → List Stamped → ℕ
below n lines = count_by (λ (x : Stamped). ltb x.stamp n) lines

below_cons : (n : ℕ) (x : Stamped) (xs : List Stamped) → below n (x ∷ xs) ≡ cond (ltb x.stamp n) 1 0 + below n xs
below_cons n x xs = sum_by-cons (λ (x : Stamped). cond (ltb x.stamp n) 1 0) x xs

at_cons : (n : ℕ) (x : Stamped) (xs : List Stamped) → count_at (x ∷ xs) n ≡ cond (eqb x.stamp n) 1 0 + count_at xs n
at_cons n x xs = sum_by-cons (λ (x : Stamped). cond (eqb x.stamp n) 1 0) x xs

one_wider : (k n : ℕ) → cond (ltb k (suc n)) 1 0 ≡ cond (ltb k n) 1 0 + cond (eqb k n) 1 0
one_wider k n = elim (cases_lt k n) [
  | inl lt ↦ rw (lt-ltb k (suc n) (omega (arith, lt)), lt-ltb k n lt, ne_eqb k n (λ e. omega (arith, lt, e))) refl
  | inr le ↦ elim (cases_lt n k) [
    | inl lt ↦ rw (le-ltb k (suc n) (omega (arith, lt)), le-ltb k n le, ne_eqb k n (λ e. omega (arith, lt, e))) refl
    | inr ge ↦ rw (lt-ltb k (suc n) (omega (arith, ge)), le-ltb k n le, eq-eqb k n (omega (arith, le, ge))) refl
  ]
]

-- one more stamp
below_suc : (n : ℕ) (lines : List Stamped) → below (suc n) lines ≡ below n lines + count_at lines n
below_suc n [] = refl
below_suc n (x ∷ xs) = omega (arith, below_cons (suc n) x xs, below_cons n x xs, at_cons n x xs, one_wider x.stamp n, below_suc n xs)

below_zero : (lines : List Stamped) → below 0 lines ≡ 0
below_zero [] = refl
below_zero (x ∷ xs) = below_cons 0 x xs ∙ rw (le-ltb x.stamp 0 (omega arith)) (omega (arith, below_zero xs))

-- each stamp below n once
below_all : (n : ℕ) (lines : List Stamped) → ((k : ℕ) → k < n → count_at lines k ≡ 1) → below n lines ≡ n
below_all zero lines h = below_zero lines
below_all (suc n) lines h = omega (arith, below_suc n lines, h n (omega arith), below_all n lines (λ k lt. h k (omega (arith, lt))))

below_case : (n : ℕ) (x : Stamped) (xs : List Stamped) (t : Bool) → ltb x.stamp n ≡ t → cond t 1 0 + below n xs ≡ suc (length xs) → (below n xs ≡ length xs → AllByRecursion (λ (x : Stamped). x.stamp < n) xs) → AllByRecursion (λ (x : Stamped). x.stamp < n) (x ∷ xs)
below_case n x xs true t e h = (ltb-true x.stamp n t, h (omega (arith, e)))
below_case n x xs false t e h = absurd (omega (arith, e, count_by-le-length (λ (x : Stamped). ltb x.stamp n) xs))

-- where as many lines are below n as there are lines, all are
each_below : (n : ℕ) (lines : List Stamped) → below n lines ≡ length lines → AllByRecursion (λ (x : Stamped). x.stamp < n) lines
each_below n [] e = tt
each_below n (x ∷ xs) e = below_case n x xs (ltb x.stamp n) refl (sym (below_cons n x xs) ∙ e) (each_below n xs)

pub stamps_below : (lines : List Stamped) → HasEachStamp lines → AllByRecursion (λ (x : Stamped). x.stamp < length lines) lines
stamps_below lines h = each_below (length lines) lines (below_all (length lines) lines h)
