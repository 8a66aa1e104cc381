-- The machine of events: a user takes a lock, makes a call or closes a request, one event at a time. States docs/levels.md, "Locks".
pub mod Serial
pub mod Turns
use Rattle.std.specs.Prelude.{ℕ, Bool, true, false, if◌then◌else◌, List, [], ◌∷◌, ◌++◌, length, map, replicate, slice_get, slice_set, slice_index_or, Option, Some, None, IsTrue}
use Rattle.std.specs.Option.{option_map, option_and_then}
use Rattle.psos_calls.specs.declared.lock_id.LockId.{LockId}
use Rattle.psos_calls.specs.Levels.Calls.{LevelCall}
use Rattle.psos_calls.specs.declared.step.Step.{Step}
use Rattle.psos_calls.specs.declared.next.Next.{Next}
use Rattle.psos_calls.specs.declared.next.Next.TheVariants as nexts
use Rattle.psos_calls.specs.declared.reply.Reply.{Reply}
use Rattle.psos_calls.specs.declared.effect.Effect.{Effect}
use Rattle.psos_calls.specs.declared.entry.Entry.{Entry}
use Rattle.psos_calls.specs.Language.Script.{Script}
use Rattle.psos_calls.specs.Language.User.{User, next_request, place_of, after}
use Rattle.psos_calls.specs.Language.Tests.{if_there}
use Rattle.psos_calls.specs.Levels.{Levels, level_of, act}
use Rattle.psos_calls.specs.Locks.{lock_of}
use Rattle.psos_calls.specs.Locks.Held.{is_held, may_take}
use Rattle.psos_calls.specs.Plan.{Plan}
use Rattle.psos_calls.specs.Plan.Requests.{plan_of}
use Rattle.psos_calls.specs.Plan.Trace.{followed, next_of}
use Rattle.psos_model.specs.Run.{has_left}
use Rattle.psos_model.specs.Replay.{System}

-- the levels, the users' own parts, the locks that each user holds, the calls of its open request, and the entries of what closed
pub record CoreState : Type 0 where
  pub levels : Levels
  pub users : List User
  pub held : List (List LockId)
  pub traces : List (List Step)
  pub entries : List Entry

-- nothing is held or open yet
abbrev pub core_of : System → CoreState
core_of y = record { levels = y.levels; users = y.users; held = replicate (length y.users) []; traces = replicate (length y.users) []; entries = [] }

abbrev pub locks_of : CoreState → ℕ → List LockId
locks_of c u = slice_index_or c.held u []

abbrev pub trace_of : CoreState → ℕ → List Step
trace_of c u = slice_index_or c.traces u []

-- ---- the event of a user

pub data Event : Type 0 where
  Take : LockId → Event
  Call : LevelCall → Event
  Close : Reply → Effect → Event

-- a call needs its lock, among so many users: one that is not held is taken first
abbrev pub event_for : ℕ → List LockId → Next → Event
event_for users locks (nexts.Call level call) = if is_held locks (lock_of users call) then Call call else Take (lock_of users call)
event_for users locks (nexts.Close reply effect) = Close reply effect

-- what is left of the plan of user x's next request, after its trace
abbrev pub plan_left : Script → CoreState → ℕ → User → Option Plan
plan_left s c u x = option_map (λ request. followed (plan_of x request) (trace_of c u)) (next_request s x)

-- user u's event, where it has a request left
abbrev pub event_of : Script → CoreState → ℕ → Option Event
event_of s c u =
    if has_left s c.users u
    then option_map (λ plan. event_for (length s.users) (locks_of c u) (next_of plan)) (option_and_then (plan_left s c u) (slice_get c.users u))
    else None

abbrev pub may_happen : CoreState → ℕ → Option Event → Bool
may_happen c u (Some (Take lock)) = may_take c.held (locks_of c u) lock
may_happen c u (Some _) = true
may_happen c u None = false

-- user u has an event, and if it takes a lock, it may
abbrev pub is_enabled : Script → CoreState → ℕ → Bool
is_enabled s c u = may_happen c u (event_of s c u)

-- ---- what events leave

-- user u's call is made and joins its trace
abbrev pub called : CoreState → ℕ → LevelCall → CoreState
called c u call =
    let step : Step = record { level = level_of call; call = call; answer = (act c.levels call).1 } in
    record c { levels = (act c.levels call).0; traces = slice_set c.traces u (trace_of c u ++ step ∷ []) }

-- the entry of a request that closes
abbrev pub entry_of : CoreState → ℕ → User → Reply → Entry
entry_of c u x reply =
    record { user = u; n = (place_of x).0; m = (place_of x).1; steps = map (λ (t : Step). (t.level, t.call)) (trace_of c u); reply = reply }

-- the entry comes last, the effect is made, and the locks are free
abbrev pub closed : Script → CoreState → ℕ → Reply → Effect → User → CoreState
closed s c u reply effect x = record c {
  users = slice_set c.users u (after s x effect);
  held = slice_set c.held u [];
  traces = slice_set c.traces u [];
  entries = c.entries ++ entry_of c u x reply ∷ [];
}

abbrev pub happened : Script → CoreState → ℕ → Event → CoreState
happened s c u (Take lock) = record c { held = slice_set c.held u (lock ∷ locks_of c u) }
happened s c u (Call call) = called c u call
happened s c u (Close reply effect) = if_there (slice_get c.users u) c (closed s c u reply effect)

-- the core after user u's event
abbrev pub core_step : Script → CoreState → ℕ → CoreState
core_step s c u = if_there (event_of s c u) c (happened s c u)

-- the core after the events of these users, one after another
abbrev pub core_after : Script → CoreState → List ℕ → CoreState
core_after s c [] = c
core_after s c (u ∷ us) = core_after s (core_step s c u) us

-- each event is enabled when it comes
abbrev pub AreEnabled : Script → CoreState → List ℕ → Type 0
AreEnabled s c [] = Unit {0}
AreEnabled s c (u ∷ us) = IsTrue (is_enabled s c u) × AreEnabled s (core_step s c u) us
