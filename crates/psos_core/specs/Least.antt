-- The least of some phases. States docs/promises.md, "Runs".
use Rattle.std.specs.Prelude.{ℕ, List, [], ◌∷◌, Option, None}
use Rattle.psos_model.specs.Run.{earlier}

-- of the phases of all users, the current one
abbrev pub least : List (Option ℕ) → Option ℕ
least [] = None
least (p ∷ others) = earlier p (least others)
