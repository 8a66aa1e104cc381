-- What users' plans do next, and what is kept of it. States docs/levels.md, "Locks".
use Rattle.std.specs.Prelude.{◌≡◌, ℕ, ◌||◌, Bool, true, false, List, [], length, map, slice_get, slice_index_or, Option, Some, None, IsTrue}
use Rattle.std.specs.Option.{option_map, option_and_then}
use Rattle.psos_calls.specs.declared.level.Level.{Level}
use Rattle.psos_calls.specs.Levels.Calls.{LevelCall}
use Rattle.psos_calls.specs.declared.lock_id.LockId.{LockId}
use Rattle.psos_calls.specs.declared.next.Next.{Next}
use Rattle.psos_calls.specs.declared.next.Next.TheVariants as nexts
use Rattle.psos_calls.specs.declared.request.Request.{Request}
use Rattle.psos_calls.specs.declared.step.Step.{Step}
use Rattle.psos_calls.specs.declared.entry.Entry.{Entry}
use Rattle.psos_calls.specs.Language.Script.{Script}
use Rattle.psos_calls.specs.Language.User.{User, next_request}
use Rattle.psos_calls.specs.Levels as machines
use Rattle.psos_calls.specs.Levels.{level_of}
use Rattle.psos_calls.specs.Levels.Lists.{HasLists}
use Rattle.psos_calls.specs.Locks.{lock_of}
use Rattle.psos_calls.specs.Locks.Held.{is_held, may_take}
use Rattle.psos_calls.specs.Plan.Requests.{plan_of}
use Rattle.psos_calls.specs.Plan.Trace.{followed, next_of, IsTraceOf}
use Rattle.psos_model.specs.Run.{phase_of}
use Rattle.psos_model.specs.Events.{CoreState, trace_of}
use Rattle.psos_core.specs.declared.levels.Levels.{Levels}
use Rattle.psos_core.specs.declared.ongoing.Ongoing.{Ongoing}
use Rattle.psos_core.specs.declared.upcoming.Upcoming.{Upcoming}
use Rattle.psos_core.specs.declared.upcoming.Upcoming.TheVariants.{Nothing, Known, Close}
use Rattle.psos_core.specs.System.{levels_of}

-- the state of a core, of its parts
abbrev pub state_in : {B : Type 0} → Levels B → Ongoing → List Entry → CoreState
state_in l o entries = record { levels = levels_of l; users = l.privates.value.items; held = o.held; traces = o.traces.items; entries = entries }

-- ---- what plans do next

-- the plan of a user's next request, after this trace
abbrev pub next_after : Script → User → List Step → Option Next
next_after s x trace = option_map (λ (request : Request). next_of (followed (plan_of x request) trace)) (next_request s x)

-- user u's
abbrev pub next_for : Script → CoreState → ℕ → Option Next
next_for s c u = option_and_then (λ (x : User). next_after s x (trace_of c u)) (slice_get c.users u)

-- the trace is a front of a run of that plan, from levels in which each live directory has an entry list
pub record CanPlan (s : Script) (x : User) (trace : List Step) : Type 0 where
  pub levels : machines.Levels
  pub traced : (request : Request) → next_request s x ≡ Some request → IsTraceOf (plan_of x request) levels trace
  pub lists : HasLists levels

-- a call is told with its level
abbrev pub IsLeveled : Option Next → Type 0
IsLeveled (Some (nexts.Call level call)) = level_of call ≡ level
IsLeveled _ = Unit {0}

-- the call that is asked for, with its level
abbrev pub call_in : Option Next → Option (Level × LevelCall)
call_in (Some (nexts.Call level call)) = Some (level, call)
call_in _ = None

-- the request is closed
abbrev pub closes : Option Next → Bool
closes (Some (nexts.Close reply effect)) = true
closes _ = false

-- among so many users: a call may be made under a lock that is held, or the lock may be taken; a request may close; and without a request nothing goes on
abbrev pub may_go : ℕ → List (List LockId) → ℕ → Option Next → Bool
may_go users held u (Some (nexts.Call level call)) =
    is_held (slice_index_or held u []) (lock_of users call) || may_take held (slice_index_or held u []) (lock_of users call)
may_go users held u (Some (nexts.Close reply effect)) = true
may_go users held u None = false

-- ---- what is kept of it

-- it tells what comes next, or of a close that it is one
pub record Tells (up : Upcoming) (o : Option Next) : Type 0 where
  pub nothing : up ≡ Nothing → o ≡ None
  pub known : (next : Next) → up ≡ Known next → o ≡ Some next
  pub close : up ≡ Close → closes o ≡ true

-- what is known of it
abbrev pub known_of : Upcoming → Option Next
known_of (Known next) = Some next
known_of _ = None

-- nothing of it is still to be had
abbrev pub is_known : Upcoming → Bool
is_known Close = false
is_known _ = true

abbrev pub AreKnown : List Upcoming → Type 0
AreKnown nexts = (u : ℕ) → IsTrue (is_known (slice_index_or nexts u Nothing))

-- where no request is open: what the plan of each user's next request does first is told, and known
pub record AreFirst (s : Script) (users : List User) (nexts : List Upcoming) : Type 0 where
  pub all : length nexts ≡ length users
  pub each : (u : ℕ) → Tells (slice_index_or nexts u Nothing) (option_and_then (λ (x : User). next_after s x []) (slice_get users u))
  pub known : AreKnown nexts

-- a core has all users of its script, and what is kept beside its state tells what each user's plan does next, and the phase of each user
pub record IsPlanned (s : Script) (c : CoreState) (nexts : List Upcoming) (phases : List (Option ℕ)) : Type 0 where
  pub users : length c.users ≡ length s.users
  pub held : length c.held ≡ length s.users
  pub traces : length c.traces ≡ length s.users
  pub all : length nexts ≡ length s.users
  pub each : (u : ℕ) → Tells (slice_index_or nexts u Nothing) (next_for s c u)
  pub phases-are : phases ≡ map (phase_of s) c.users
