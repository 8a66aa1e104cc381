-- Where a run by events stands. States docs/levels.md, "Locks".
use Rattle.std.specs.Prelude.{◌≡◌, ◌⊎◌, ℕ, false, List}
use Rattle.psos_calls.specs.Language.Script.{Script}
use Rattle.psos_model.specs.Run.{has_left}
use Rattle.psos_model.specs.Events.{CoreState, core_of, core_after, AreEnabled}
use Rattle.psos_model.specs.Events.Serial.{IsCoreStart}
use Rattle.psos_core.specs.Serving.{Start}

-- from a start, the enabled events of these users have led to this state
pub record HasLed (s : Script) (c : CoreState) (start : Start) (turns : List ℕ) : Type 0 where
  pub starts : IsCoreStart s start.system start.flat
  pub enabled : AreEnabled s (core_of start.system) turns
  pub state : c ≡ core_after s (core_of start.system) turns

-- events have led here from a start
pub record IsUnderWay (s : Script) (c : CoreState) : Type 0 where
  pub start : Start
  pub turns : List ℕ
  pub after : HasLed s c start turns

-- nobody has a request left
pub record IsOver (s : Script) (c : CoreState) : Type 0 where
  pub nobody : (u : ℕ) → has_left s c.users u ≡ false

-- it goes on by events, or it is over
abbrev pub GoesOn : Script → CoreState → Type 0
GoesOn s c = IsUnderWay s c ⊎ IsOver s c
