-- A run that goes by events. States docs/levels.md, "Locks".
use Rattle.std.specs.Prelude.{◌≡◌, ◌⊎◌, ℕ, ◌<◌, Bool, true, false, List, length, IsTrue}
use Rattle.psos_calls.specs.Language.Script.{Script}
use Rattle.psos_calls.specs.Levels.{level_of}
use Rattle.psos_model.specs.Events.{CoreState, core_step, is_enabled}
use Rattle.psos_model.specs.Events as events
use Rattle.psos_core.specs.declared.ongoing.Ongoing.{Ongoing}
use Rattle.psos_core.specs.declared.run.Core.{Core}
use Rattle.psos_core.specs.declared.event.Event.{Event}
use Rattle.psos_core.specs.declared.event.Event.TheVariants.{Take, Call, Close}
use Rattle.psos_core.specs.Plans.{state_in, AreKnown, IsPlanned}
use Rattle.psos_core.specs.Serving.{Start}
use Rattle.psos_core.specs.EventStates.{HasLed, IsUnderWay}

-- ---- an event

-- user u's event is enabled
pub record MayHappen (s : Script) (c : CoreState) (u : ℕ) : Type 0 where
  pub user : u < length s.users
  pub under_way : IsUnderWay s c
  pub enabled : IsTrue (is_enabled s c u)

-- and all that is kept is known
pub record MayStep (s : Script) (c : CoreState) (o : Ongoing) (u : ℕ) : Type 0 where
  pub goes : MayHappen s c u
  pub planned : IsPlanned s c o.nexts.items o.phases
  pub known : AreKnown o.nexts.items

-- it has happened
pub record HasStepped (s : Script) (c : CoreState) (u : ℕ) (d : CoreState) (o : Ongoing) : Type 0 where
  pub state : d ≡ core_step s c u
  pub planned : IsPlanned s d o.nexts.items o.phases
  pub known : AreKnown o.nexts.items

-- the run stopped at it: before it, or after it
pub record HasStopped (s : Script) (c : CoreState) (u : ℕ) (d : CoreState) (o : Ongoing) : Type 0 where
  pub state : (d ≡ c) ⊎ (d ≡ core_step s c u)
  pub planned : IsPlanned s d o.nexts.items o.phases

-- what is told of an event, where so many entries stood before it
abbrev pub told : ℕ → events.Event → Event
told stamp (events.Take lock) = Take lock
told stamp (events.Call call) = Call (level_of call)
told stamp (events.Close reply effect) = Close stamp

-- a request was closed
abbrev pub is_close : Event → Bool
is_close (Close stamp) = true
is_close _ = false

-- ---- the same of a core

abbrev pub core_state_of : {B : Type 0} {g : _} → Core B g → CoreState
core_state_of core = state_in core.levels core.ongoing core.entries

-- from a start, it is after the enabled events of these users
abbrev pub IsAfter : {B : Type 0} {g : _} → Core B g → Start → List ℕ → Type 0
IsAfter core start turns = HasLed core.script (core_state_of core) start turns

-- from some start, it is after some events
abbrev pub IsGoing : {B : Type 0} {g : _} → Core B g → Type 0
IsGoing core = IsUnderWay core.script (core_state_of core)

-- and user u's event is enabled
abbrev pub MayGo : {B : Type 0} {g : _} → Core B g → ℕ → Type 0
MayGo core u = MayHappen core.script (core_state_of core) u
