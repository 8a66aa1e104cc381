-- Laws of events: where they begin, what they commit, that each can happen and goes further, and where they end. States docs/levels.md, "Locks".
use Rattle.std.specs.Prelude.{◌≡◌, ◌<◌, ◌≤◌, ◌+◌, ◌*◌, ℕ, false, List, length, map, sum_by, slice_get, Option, Some, None, IfSome, IsTrue}
use Rattle.psos_limits.specs.declared.TheConstants.{TRACE_ROOM}
use Rattle.psos_calls.specs.declared.lock_id.LockId.{LockId}
use Rattle.psos_calls.specs.declared.step.Step.{Step}
use Rattle.psos_calls.specs.Language.Script.{Script, IsWellFormed}
use Rattle.psos_calls.specs.Language.User.{CanSettle}
use Rattle.psos_calls.specs.Levels.{Can}
use Rattle.psos_model.specs.Flat.{Flat}
use Rattle.psos_model.specs.Flat.Boot.{boot}
use Rattle.psos_model.specs.Run.{has_left, run_from, answers_from}
use Rattle.psos_model.specs.Replay.{System, boot_system, order_of, answered_of}
use Rattle.psos_model.specs.Replay.StandsFor.{StandsFor}
use Rattle.psos_model.specs.Events.{CoreState, Event, Take, Call, Close, core_of, trace_of, event_of, is_enabled, core_step, core_after, AreEnabled}
use Rattle.psos_model.specs.Events.Serial.{IsCoreStart, committed}

-- a script can run from boot
abbrev pub BootIsCoreStart : Type 0
BootIsCoreStart = (s : Script) → IsWellFormed s → IsCoreStart s (boot_system s) (boot s)

-- what is committed stands for the run of the closes, and the entries say what that run answers
pub record HasCommitted (s : Script) (y : System) (f : Flat) (c : CoreState) : Type 0 where
  pub stands : StandsFor (committed s y c) (run_from s f (order_of c.entries))
  pub answered : map answered_of c.entries ≡ answers_from s f (order_of c.entries)

-- after any events from a start
abbrev pub EventsCommit : Type 0
EventsCommit = (s : Script) (y : System) (f : Flat) (us : List ℕ) → IsCoreStart s y f → AreEnabled s (core_of y) us
    → HasCommitted s y f (core_after s (core_of y) us)

-- a call meets its condition and has room in its trace; at a close the user's part can be settled
abbrev pub CanHappen : CoreState → ℕ → Option Event → Type 0
CanHappen c u None = Unit {0}
CanHappen c u (Some (Take lock)) = Unit {0}
CanHappen c u (Some (Call call)) = Can c.levels call × (length (trace_of c u) < TRACE_ROOM)
CanHappen c u (Some (Close reply effect)) = IfSome (slice_get c.users u) (λ x. CanSettle x effect)

-- after any events from a start each user's event can happen
abbrev pub EventsCanHappen : Type 0
EventsCanHappen = (s : Script) (y : System) (f : Flat) (us : List ℕ) → IsCoreStart s y f → AreEnabled s (core_of y) us
    → (u : ℕ) → CanHappen (core_after s (core_of y) us) u (event_of s (core_after s (core_of y) us) u)

-- how far a core has gone: 61 for each request that closed, and one for each lock that is held and each call of an open trace
abbrev pub gone : CoreState → ℕ
gone c = 61 * length c.entries + sum_by (λ (locks : List LockId). length locks) c.held + sum_by (λ (trace : List Step). length trace) c.traces

-- after any events from a start each enabled event goes further, and there is a bound
abbrev pub EventsGoOn : Type 0
EventsGoOn = (s : Script) (y : System) (f : Flat) (us : List ℕ) → IsCoreStart s y f → AreEnabled s (core_of y) us
    → (gone (core_after s (core_of y) us) ≤ 2000000)
    × ((u : ℕ) → IsTrue (is_enabled s (core_after s (core_of y) us) u) → gone (core_after s (core_of y) us) < gone (core_step s (core_after s (core_of y) us) u))

-- the levels and the users' own parts of a core
abbrev pub system_in : CoreState → System
system_in c = record { levels = c.levels; users = c.users }

-- where nobody has a request left the core has what is committed
abbrev pub EventsEnd : Type 0
EventsEnd = (s : Script) (y : System) (f : Flat) (us : List ℕ) → IsCoreStart s y f → AreEnabled s (core_of y) us
    → ((u : ℕ) → has_left s (core_after s (core_of y) us).users u ≡ false)
    → system_in (core_after s (core_of y) us) ≡ committed s y (core_after s (core_of y) us)
