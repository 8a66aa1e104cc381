-- How far an order is legal. States docs/promises.md, "Runs".
use Rattle.std.specs.Prelude.{ℕ, List, [], ◌∷◌, if◌then◌else◌}
use Rattle.psos_calls.specs.Language.Script.{Script}
use Rattle.psos_model.specs.Flat.{Flat}
use Rattle.psos_model.specs.Answer.{answer}
use Rattle.psos_model.specs.Run.{has_left}

-- the longest front of an order that is legal
abbrev pub legal_front : Script → Flat → List ℕ → List ℕ
legal_front s f [] = []
legal_front s f (u ∷ us) = if has_left s f.users u then u ∷ legal_front s (answer s f u).0 us else []
