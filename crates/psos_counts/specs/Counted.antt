-- Rows of a table by class, and how many there are of each.
use Rattle.std.specs.Prelude.{◌≡◌, ℕ, ◌-◌, ◌==◌, Bool, false, nat_le, not, Option, Some, None, if◌then◌else◌}
use Rattle.psos_table.specs.Table.{Table, at, without, kept, edit, size}

-- the class is this number
abbrev pub is_class : ℕ → Option ℕ → Bool
is_class c None = false
is_class c (Some d) = d == c

-- the row is of this class
abbrev pub is_of_class : {X : Type 0} → (X → Option ℕ) → ℕ → X → Bool
is_of_class class c x = is_class c (class x)

-- the row is not of this class
abbrev pub is_apart : {X : Type 0} → (X → Option ℕ) → ℕ → X → Bool
is_apart class c x = not (is_of_class class c x)

-- the count that is kept of so many rows: none is kept of no row
abbrev pub counted : ℕ → Option ℕ
counted n = if n == 0 then None else Some n

-- the counts are those of the rows by class
pub record AreCounts {X : Type 0} (class : X → Option ℕ) (rows : Table X) (counts : Table ℕ) : Type 0 where
  pub each : (c : ℕ) → at counts c ≡ counted (size (kept (is_of_class class c) rows))

abbrev pub or_zero : Option ℕ → ℕ
or_zero None = 0
or_zero (Some n) = n

-- the count that is kept of a class, or 0
abbrev pub count_in : Table ℕ → ℕ → ℕ
count_in counts c = or_zero (at counts c)

-- the counts with one row less of a class
abbrev pub one_fewer : Table ℕ → ℕ → Table ℕ
one_fewer counts c = if nat_le (count_in counts c) 1 then without counts c else edit counts c (λ n. n - 1)
