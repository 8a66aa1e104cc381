-- What the replay of an order stands for. States docs/promises.md, "Stands for".
use Rattle.std.specs.Prelude.{◌≡◌, ◌+◌, ◌*◌, ◌≤◌, ◌^◌, ℕ, List, length, map}
use Rattle.psos_limits.specs.declared.TheConstants.{MOST_CALLS}
use Rattle.psos_calls.specs.Language.Script.{Script}
use Rattle.psos_model.specs.Flat.{Flat}
use Rattle.psos_model.specs.Run.{run_from, answers_from, IsLegalFrom}
use Rattle.psos_model.specs.Replay.{System, replay_from, entries_from, answered_of}
use Rattle.psos_model.specs.Text.Output.{calls_of}
use Rattle.psos_model.specs.Sound.{IsSound}
use Rattle.psos_model.specs.Replay.StandsFor.{StandsFor}
use Rattle.psos_model.specs.Events.Serial.{IsCoreStart}

-- the replay of an order stands for its run, which is sound and has two identifiers left; it answers as the run does, and makes few calls
pub record RunStands (s : Script) (y : System) (f : Flat) (order : List ℕ) : Type 0 where
  pub stands : StandsFor (replay_from s y order) (run_from s f order)
  pub sound : IsSound s (run_from s f order)
  pub room : (run_from s f order).next + 3 ≤ 2 ^ 64
  pub answered : map answered_of (entries_from s y order) ≡ answers_from s f order
  pub few : calls_of (entries_from s y order) ≤ MOST_CALLS * length order

-- so it is of every legal order from a start
abbrev pub RunsStand : Type 0
RunsStand = (s : Script) (y : System) (f : Flat) (order : List ℕ) → IsCoreStart s y f → IsLegalFrom s f order → RunStands s y f order
