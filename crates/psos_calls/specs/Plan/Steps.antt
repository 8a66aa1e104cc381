-- The steps of a trace: calls that were made, each with its answer. States docs/requests.md, "Plans".
use Rattle.std.specs.Prelude.{◌≡◌, ℕ, ◌≤◌, Bool, true, false, List, [], ◌∷◌, Option, Some, None, length, IsTrue}
use Rattle.psos_calls.specs.declared.level.Level.{Level}
use Rattle.psos_calls.specs.declared.step.Step.{Step}
use Rattle.psos_calls.specs.Levels.Calls.{LevelCall}
use Rattle.psos_calls.specs.Levels.Answers.{LevelAnswer}
use Rattle.psos_calls.specs.Levels.Level7.{reads_page}
use Rattle.psos_calls.specs.Plan.Asked.{IsLastDir}

-- calls that were made, and what they were answered
abbrev pub steps_of : List (Level × LevelCall) → List LevelAnswer → List Step
steps_of (c ∷ calls) (a ∷ answers) = record { level = c.0; call = c.1; answer = a } ∷ steps_of calls answers
steps_of _ _ = []

-- the last so many steps read pages
abbrev pub EndsReading : ℕ → List Step → Type 0
EndsReading n [] = Unit {0}
EndsReading n (s ∷ rest) = (length (s ∷ rest) ≤ n → IsTrue (reads_page s.call)) × EndsReading n rest

-- a trace has an answer to each of its calls, and knows the last call for a directory, and how many of its last calls read pages
pub record IsTrace (asked at reading : ℕ) (calls : List (Level × LevelCall)) (answers : List LevelAnswer) : Type 0 where
  pub answered : length calls ≡ length answers
  pub last_dir : IsLastDir asked at (steps_of calls answers)
  pub last_pages : EndsReading reading (steps_of calls answers)

-- ---- how a list is taken apart

-- the first step and those behind it, as one list
abbrev pub joined : Option (Step × List Step) → List Step
joined None = []
joined (Some (first, rest)) = first ∷ rest

abbrev pub is_nothing : List Step → Bool
is_nothing [] = true
is_nothing (s ∷ rest) = false
