-- Page slots that are taken. States docs/levels.md, "Pages and slots".
use Rattle.std.specs.Prelude.{ℕ, suc, Bool, true, false, List, [], ◌∷◌}

-- the least slot that is not taken; where all are, their number
abbrev pub least_free : List Bool → ℕ
least_free [] = 0
least_free (false ∷ rest) = 0
least_free (true ∷ rest) = suc (least_free rest)
