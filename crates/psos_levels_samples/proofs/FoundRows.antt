-- What the calls find in a table.
use Rattle.std.proofs.Common.{◌≡◌, ℕ, ◌+◌, ◌≤◌, None, Result, Ok, ap, ◌∙◌, arith}
use Rattle.std.specs.FinMap.{empty}
use Rattle.psos_table.specs.Table.{Table, at, put, size}
use Rattle.psos_table.proofs.Tables.{at-empty, at-put, at-put_here, at-put_apart, size-empty, size-put_new}

-- what the first calls on an empty table find
pub ruleset tables = (at-empty, at-put_here, size-empty)

-- what calls find among several rows
pub ruleset several = (at-empty, at-put)

-- the table has n rows, and none under n or a greater number
pub record IsFilled {X : Type 0} (m : Table X) (n : ℕ) : Type 0 where
  pub many : size m ≡ n
  pub above : (u : ℕ) → n ≤ u → at m u ≡ None

pub filled_first : {X E : Type 0} (m : Table X) → ◌≡◌ {A = Result (Table X) E} (Ok m) (Ok empty) → IsFilled m 0
filled_first {X} m e =
    let is : m ≡ empty = cc in
    record { many = ap size is ∙ size-empty X; above = λ u _. ap (λ t. at t u) is ∙ at-empty u }

pub filled_more : {X : Type 0} (m n o : Table X) (k : ℕ) (x : X) → IsFilled o k → n ≡ o → m ≡ put n k x → IsFilled m (k + 1)
filled_more m n o k x h same e =
    let before : m ≡ put o k x = e ∙ ap (λ t. put t k x) same in
    record {
      many = ap size before ∙ (size-put_new o k x (h.above k (omega arith)) ∙ ap (λ a. a + 1) h.many);
      above = λ u over. ap (λ t. at t u) before ∙ (at-put_apart o k x u (λ same. omega arith) ∙ h.above u (omega arith));
    }
