-- The rows that pass a test after a change, and how many there are.
use Rattle.std.proofs.Common.{◌≡◌, ℕ, ◌+◌, Bool, true, false, cond, Option, Some, None, refl, sym, ap, ◌∙◌, inl, inr, arith}
use Rattle.std.specs.Ordering.{nat_cmp}
use Rattle.std.specs.FinMap.{empty}
use Rattle.std.proofs.lemmas.Bool.{cases_eq}
use Rattle.std.proofs.lemmas.Map.Entries.{option_filter}
use Rattle.psos_table.specs.Table.{Table, at, size, put, without, kept}
use Rattle.psos_table.proofs.Tables.{at-empty, at-put_here, at-put_apart, at-without_here, at-without_apart, at-kept, same_table, size-put_new, size-some, size-without_here, size-without_absent}

-- tests that agree keep the same rows
pub kept_alike : {X : Type 0} (f g : X → Bool) (m : Table X) → ((x : X) → f x ≡ g x) → kept f m ≡ kept g m
kept_alike {X} f g m is = same_table _ _ (λ q. at-kept f m q ∙ (by_row (at m q) ∙ sym (at-kept g m q)))
  where
    by_row : (o : Option X) → option_filter f o ≡ option_filter g o
    by_row None = refl
    by_row (Some x) = ap (λ b. cond b (Some x) None) (is x)

-- the kept rows of those kept by a test that each of them passes are the kept rows of all
pub kept_within : {X : Type 0} (f g : X → Bool) (m : Table X) → ((x : X) → f x ≡ true → g x ≡ true) → kept f (kept g m) ≡ kept f m
kept_within {X} f g m is = same_table _ _ (λ q. at-kept f (kept g m) q ∙ (ap (option_filter f) (at-kept g m q) ∙ (by_row (at m q) ∙ sym (at-kept f m q))))
  where
    by_tests : (x : X) (a b : Bool) → f x ≡ a → g x ≡ b → option_filter f (cond b (Some x) None) ≡ cond a (Some x) None
    by_tests x a true p r = ap (λ t. cond t (Some x) None) p
    by_tests x true false p r = absurd (cc (r, is x p))
    by_tests x false false p r = refl

    by_row : (o : Option X) → option_filter f (option_filter g o) ≡ option_filter f o
    by_row None = refl
    by_row (Some x) = by_tests x (f x) (g x) refl refl

-- no row is kept of those that fail
pub kept_apart : {X : Type 0} (f g : X → Bool) (m : Table X) → ((x : X) → g x ≡ true → f x ≡ false) → kept f (kept g m) ≡ empty
kept_apart {X} f g m is = same_table _ _ (λ q. at-kept f (kept g m) q ∙ (ap (option_filter f) (at-kept g m q) ∙ (by_row (at m q) ∙ sym (at-empty q))))
  where
    by_test : (x : X) (b : Bool) → g x ≡ b → option_filter f (cond b (Some x) None) ≡ None
    by_test x true r = ap (λ t. cond t (Some x) None) (is x r)
    by_test x false r = refl

    by_row : (o : Option X) → option_filter f (option_filter g o) ≡ None
    by_row None = refl
    by_row (Some x) = by_test x (g x) refl

-- no row is kept of no row
pub kept_empty : {X : Type 0} (f : X → Bool) → kept f (empty {X = X} {R = nat_cmp}) ≡ empty
kept_empty f = same_table _ _ (λ q. at-kept f empty q ∙ (ap (option_filter f) (at-empty q) ∙ sym (at-empty q)))

-- a row that passes is kept
pub at-kept_some : {X : Type 0} (f : X → Bool) (m : Table X) (k : ℕ) (x : X) → at m k ≡ Some x → f x ≡ true → at (kept f m) k ≡ Some x
at-kept_some f m k x e t = at-kept f m k ∙ (ap (option_filter f) e ∙ ap (λ b. cond b (Some x) None) t)

-- what is not there is not kept
pub at-kept_none : {X : Type 0} (f : X → Bool) (m : Table X) (k : ℕ) → at m k ≡ None → at (kept f m) k ≡ None
at-kept_none f m k e = at-kept f m k ∙ ap (option_filter f) e

-- where no row passes, all rows fail
pub kept_all : {X : Type 0} (f g : X → Bool) (m : Table X) → ((x : X) → f x ≡ false → g x ≡ true) → size (kept f m) ≡ 0 → kept g m ≡ m
kept_all {X} f g m is none = same_table _ _ (λ q. at-kept g m q ∙ by_row q (at m q) refl)
  where
    by_test : (q : ℕ) (x : X) (b : Bool) → f x ≡ b → at m q ≡ Some x → option_filter g (Some x) ≡ Some x
    by_test q x true t e = absurd (omega (arith, none, size-some (kept f m) q x (at-kept_some f m q x e t)))
    by_test q x false t e = ap (λ b. cond b (Some x) None) (is x t)

    by_row : (q : ℕ) (o : Option X) → at m q ≡ o → option_filter g o ≡ o
    by_row q None e = refl
    by_row q (Some x) e = by_test q x (f x) refl e

-- a new row is kept where it passes
kept_put : {X : Type 0} (f : X → Bool) (m : Table X) (k : ℕ) (x : X) (b : Bool) → at m k ≡ None → f x ≡ b → kept f (put m k x) ≡ cond b (put (kept f m) k x) (kept f m)
kept_put f m k x b e t = same_table _ _ (λ q. at-kept f (put m k x) q ∙ elim (cases_eq q k) [
  | inl same ↦ ap (λ j. option_filter f (at (put m k x) j)) same ∙ (ap (option_filter f) (at-put_here m k x) ∙ (here b t ∙ sym (ap (at (cond b (put (kept f m) k x) (kept f m))) same)))
  | inr apart ↦ ap (option_filter f) (at-put_apart m k x q apart) ∙ (sym (at-kept f m q) ∙ there b q apart)
])
  where
    here : (b : Bool) → f x ≡ b → cond (f x) (Some x) None ≡ at (cond b (put (kept f m) k x) (kept f m)) k
    here true t = ap (λ b. cond b (Some x) None) t ∙ sym (at-put_here (kept f m) k x)
    here false t = ap (λ b. cond b (Some x) None) t ∙ sym (at-kept_none f m k e)

    there : (b : Bool) (q : ℕ) → (q ≡ k → ⊥) → at (kept f m) q ≡ at (cond b (put (kept f m) k x) (kept f m)) q
    there true q apart = sym (at-put_apart (kept f m) k x q apart)
    there false q apart = refl

-- a new row that passes is one more
pub size-kept_put : {X : Type 0} (f : X → Bool) (m : Table X) (k : ℕ) (x : X) → at m k ≡ None → f x ≡ true → size (kept f (put m k x)) ≡ size (kept f m) + 1
size-kept_put f m k x e t = ap size (kept_put f m k x true e t) ∙ size-put_new (kept f m) k x (at-kept_none f m k e)

-- a new row that fails is not counted
pub size-kept_put_apart : {X : Type 0} (f : X → Bool) (m : Table X) (k : ℕ) (x : X) → at m k ≡ None → f x ≡ false → size (kept f (put m k x)) ≡ size (kept f m)
size-kept_put_apart f m k x e t = ap size (kept_put f m k x false e t)

-- the rows that pass, of all rows but one
pub kept_without : {X : Type 0} (f : X → Bool) (m : Table X) (k : ℕ) → kept f (without m k) ≡ without (kept f m) k
kept_without f m k = same_table _ _ (λ q. at-kept f (without m k) q ∙ elim (cases_eq q k) [
  | inl same ↦ ap (λ j. option_filter f (at (without m k) j)) same ∙ (ap (option_filter f) (at-without_here m k) ∙ (sym (at-without_here (kept f m) k) ∙ sym (ap (at (without (kept f m) k)) same)))
  | inr apart ↦ ap (option_filter f) (at-without_apart m k q apart) ∙ (sym (at-kept f m q) ∙ sym (at-without_apart (kept f m) k q apart))
])

-- one row less that passes
pub size-kept_without : {X : Type 0} (f : X → Bool) (m : Table X) (k : ℕ) (x : X) → at m k ≡ Some x → f x ≡ true → size (kept f (without m k)) + 1 ≡ size (kept f m)
size-kept_without f m k x e t = ap (λ r. size r + 1) (kept_without f m k) ∙ size-without_here (kept f m) k x (at-kept_some f m k x e t)

-- a row less that fails is not counted
pub size-kept_without_apart : {X : Type 0} (f : X → Bool) (m : Table X) (k : ℕ) (x : X) → at m k ≡ Some x → f x ≡ false → size (kept f (without m k)) ≡ size (kept f m)
size-kept_without_apart f m k x e t =
    let gone = at-kept f m k ∙ (ap (option_filter f) e ∙ ap (λ b. cond b (Some x) None) t) in
    ap size (kept_without f m k) ∙ size-without_absent (kept f m) k gone
