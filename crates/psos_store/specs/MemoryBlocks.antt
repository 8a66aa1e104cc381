-- The blocks of a store in memory. States docs/levels.md, "The backing store".
use Rattle.std.specs.Prelude.{ℕ, ◌-◌, List, ◌++◌, length, replicate}

-- so many zero blocks
abbrev pub zero_blocks : ℕ → List (List ℕ)
zero_blocks n = replicate n (replicate 1032 0)

-- the first blocks, and zeros in all behind them
abbrev pub memory_blocks : List (List ℕ) → List (List ℕ)
memory_blocks first = first ++ zero_blocks (4168 - length first)
