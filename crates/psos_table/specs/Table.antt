-- Finite maps from numbers, in the words that the other definitions use.
use Rattle.std.specs.Prelude.{ℕ, Bool, true, Option, Some, None, is_some}
use Rattle.std.specs.Ordering.{nat_cmp}
use Rattle.std.specs.FinMap.{FinMap, get, insert, remove, retain_keys, len}

-- a finite map from numbers to rows
abbrev pub Table : Type 0 → Type 0
Table X = FinMap nat_cmp X

-- the row under a number
abbrev pub at : {X : Type 0} → Table X → ℕ → Option X
at m k = get m k

-- whether there is a row under a number
abbrev pub has : {X : Type 0} → Table X → ℕ → Bool
has m k = is_some (at m k)

-- how many rows
abbrev pub size : {X : Type 0} → Table X → ℕ
size m = len m

-- the table with the row x under the number k
abbrev pub put : {X : Type 0} → Table X → ℕ → X → Table X
put m k x = insert m k x

-- the table with no row under the number k
abbrev pub without : {X : Type 0} → Table X → ℕ → Table X
without m k = remove m k

-- whether a row passes; where there is none, true
abbrev pub passes : {X : Type 0} → (X → Bool) → Option X → Bool
passes test None = true
passes test (Some x) = test x

-- the rows that pass a test
abbrev pub kept : {X : Type 0} → (X → Bool) → Table X → Table X
kept test m = retain_keys m (λ k. passes test (at m k))

-- the table with the changed row under k, where k has the row o
abbrev pub edited : {X : Type 0} → Table X → ℕ → (X → X) → Option X → Table X
edited m k change None = m
edited m k change (Some x) = put m k (change x)

-- the table with its row under k changed, where there is one
abbrev pub edit : {X : Type 0} → Table X → ℕ → (X → X) → Table X
edit m k change = edited m k change (at m k)
