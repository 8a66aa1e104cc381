-- The lines of a text.
use Rattle.std.specs.Prelude.{ℕ, ◌==◌, if◌then◌else◌, List, [], ◌∷◌}
use Rattle.std.specs.List.{onto_first}

-- the pieces that line feeds end, each with its line feed; the last piece has none where the text does not end with one
abbrev pub whole_lines : List ℕ → List (List ℕ)
whole_lines [] = []
whole_lines (b ∷ bs) = if b == 10 then (10 ∷ []) ∷ whole_lines bs else onto_first b (whole_lines bs)
