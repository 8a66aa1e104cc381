-- What the code of a take or a call has found, and what it leaves. States docs/levels.md, "Locks".
use Rattle.std.proofs.Common.{◌≡◌, ℕ, ◌<◌, Bool, true, false, List, [], ◌∷◌, ◌++◌, length, get_or, set, Some, refl, sym, ap, ◌∙◌, subst}
use Rattle.std.specs.Prelude.{slice_get, IsTrue}
use Rattle.std.specs.Vec.{with_item}
use Rattle.psos_calls.specs.declared.level.Level.{Level}
use Rattle.psos_calls.specs.Levels.Calls.{LevelCall}
use Rattle.psos_calls.specs.declared.lock_id.LockId.{LockId}
use Rattle.psos_calls.specs.declared.next.Next.TheVariants as nexts
use Rattle.psos_calls.specs.declared.step.Step.{Step}
use Rattle.psos_calls.specs.declared.entry.Entry.{Entry}
use Rattle.psos_calls.specs.Language.Script.{Script, UserScript}
use Rattle.psos_calls.specs.Language.User.{User}
use Rattle.psos_calls.specs.Levels.{act, Can}
use Rattle.psos_calls.specs.Locks.{lock_of}
use Rattle.psos_calls.specs.Locks.Held.{is_lock, is_held}
use Rattle.psos_model.specs.Events.{CoreState, locks_of, trace_of, called, event_of, core_step}
use Rattle.psos_model.specs.Events as events
use Rattle.psos_events.proofs.LockScope.{lock_is_lock}
use Rattle.psos_events.proofs.OpenTraces.{step_of}
use Rattle.psos_core.specs.declared.levels.Levels.{Levels}
use Rattle.psos_core.specs.declared.ongoing.Ongoing.{Ongoing}
use Rattle.psos_core.specs.declared.upcoming.Upcoming.{Upcoming}
use Rattle.psos_core.specs.System.{levels_of}
use Rattle.psos_core.specs.Plans.{state_in, next_after, next_for, CanPlan, closes, Tells, is_known}
use Rattle.psos_core.specs.Events.{MayStep, HasStepped, HasStopped}
use Rattle.psos_core.proofs.UserSlots.{found_there}
use Rattle.psos_core.proofs.EventStep.{in_place, still_closes}
use Rattle.psos_core.proofs.EventRun.{can_call, room, event_call}
use Rattle.psos_core.proofs.EventParts.{lock_is, held_is, read_back, longer_is, called_is, below, traced, made_plan, made_next, made, made_stopped}

-- the lock that was looked at is one
pub is_lock_there : (s : Script) (c : CoreState) (o : Ongoing) (u : ℕ) (call : LevelCall) → MayStep s c o u → (users : List UserScript) (lock : LockId) → users ≡ s.users → lock ≡ lock_of (length users) call
    → IsTrue (is_lock (length c.held) lock)
is_lock_there s c o u call may users lock same is =
    subst (λ (n : ℕ). IsTrue (is_lock n lock)) (sym may.planned.held)
    (subst (λ (k : LockId). IsTrue (is_lock (length s.users) k)) (sym (lock_is s call users lock same is)) (lock_is_lock (length s.users) may.goes.under_way.after.starts.well_formed.some_users call))

-- ---- before the call

-- the user's plan asks for a call whose lock it holds
pub record IsCalling (s : Script) (c : CoreState) (o : Ongoing) (u : ℕ) (level : Level) (call : LevelCall) : Type 0 where
  pub may : MayStep s c o u
  pub asked : next_for s c u ≡ Some (nexts.Call level call)
  pub mine : is_held (locks_of c u) (lock_of (length s.users) call) ≡ true

pub is_calling : (s : Script) (c : CoreState) (o : Ongoing) (u : ℕ) (level : Level) (call : LevelCall) → MayStep s c o u → next_for s c u ≡ Some (nexts.Call level call)
    → (users : List UserScript) (lock : LockId) (held : Bool) → users ≡ s.users → lock ≡ lock_of (length users) call → held ≡ is_held (locks_of c u) lock → held ≡ true → IsCalling s c o u level call
is_calling s c o u level call may asked users lock held same is told mine = record { may = may; asked = asked; mine = held_is s c u call users lock held same is told mine }

module _ (s : Script) (c : CoreState) (o : Ongoing) (u : ℕ) (level : Level) (call : LevelCall) (h : IsCalling s c o u level call) where
  pub event_is_call : event_of s c u ≡ Some (events.Call call)
  event_is_call = event_call s c o u h.may level call h.asked h.mine

  pub can_make : Can c.levels call
  can_make = can_call s c o u h.may level call h.asked h.mine

  pub has_room : (lent : List Step) → lent ≡ get_or c.traces u lent → length lent < 64
  has_room lent read =
      subst (λ (t : List Step). length t < 64) (sym (in_place c.traces u lent [] (traced s c o u h.may) read)) (room s c o u h.may level call h.asked h.mine)

-- ---- after it

-- the call was made, and its step has joined the trace of its user
pub record HasCalled (s : Script) (c : CoreState) (o : Ongoing) (u : ℕ) (level : Level) (call : LevelCall) (x : User) (trace : List Step) : Type 0 where
  pub calls : IsCalling s c o u level call
  pub here : slice_get c.users u ≡ Some x
  pub longer : trace ≡ trace_of c u ++ step_of c.levels call ∷ []

pub has_called : (s : Script) (c : CoreState) (o : Ongoing) (u : ℕ) (level : Level) (call : LevelCall) → IsCalling s c o u level call → (slots : List User) (x : User) → slots ≡ c.users → x ≡ get_or slots u x
    → (lent trace : List Step) → lent ≡ get_or c.traces u lent → trace ≡ lent ++ record { level = level; call = call; answer = (act c.levels call).1 } ∷ [] → HasCalled s c o u level call x trace
has_called s c o u level call h slots x same found lent trace read joined = record {
  calls = h;
  here = found_there slots c.users u x same found (below s c o u h.may);
  longer = joined ∙ longer_is s c u level call h.asked lent (in_place c.traces u lent [] (traced s c o u h.may) read);
}

-- what users have under way then
abbrev pub with_call : Ongoing → ℕ → List Step → Upcoming → Ongoing
with_call o u trace then = record { held = o.held; traces = with_item o.traces u trace; nexts = with_item o.nexts u then; phases = o.phases }

module _ (s : Script) (c : CoreState) (o : Ongoing) (u : ℕ) (level : Level) (call : LevelCall) (x : User) (trace read : List Step) (h : HasCalled s c o u level call x trace) (back : read ≡ get_or (set c.traces u trace) u read) where
  is_read : read ≡ trace
  is_read = read_back c.traces u trace read (traced s c o u h.calls.may) back

  pub can_plan_then : CanPlan s x read
  can_plan_then = subst (λ (t : List Step). CanPlan s x t) (sym is_read) (made_plan s c o u h.calls.may level call h.calls.asked h.calls.mine x h.here trace h.longer)

  pub tells_then : (then : Upcoming) → Tells then (next_after s x read) → Tells then (next_after s x trace)
  tells_then then told = subst (λ (t : List Step). Tells then (next_after s x t)) is_read told

  -- where it is not known what comes next, it is a close
  pub closes_then : (then : Upcoming) → Tells then (next_after s x read) → is_known then ≡ false → IsTrue (closes (next_for s (core_step s c u) u))
  closes_then then told not =
      ap closes (made_next s c o u h.calls.may level call h.calls.asked h.calls.mine x h.here trace h.longer) ∙ still_closes then (next_after s x trace) (tells_then then told) not

-- the state that the call leaves
module _ {B : Type 0} (s : Script) (l m : Levels B) (o : Ongoing) (entries : List Entry) (u : ℕ) (level : Level) (call : LevelCall) (x : User) (trace read : List Step) (then : Upcoming) where
  abbrev before : CoreState
  before = state_in l o entries

  abbrev after : CoreState
  after = state_in m (with_call o u trace then) entries

  module _ (h : HasCalled s before o u level call x trace) (back : read ≡ get_or (set o.traces.items u trace) u read) (levels : levels_of m ≡ (act (levels_of l) call).0) (privates : m.privates ≡ l.privates)
      (told : Tells then (next_after s x read)) where
    is_called : after ≡ called before u call
    is_called = called_is l m o (with_call o u trace then) entries u call trace levels privates refl refl h.longer

    tells : Tells then (next_after s x trace)
    tells = tells_then s before o u level call x trace read h back then told

    pub has_stepped : IsTrue (is_known then) → HasStepped s before u after (with_call o u trace then)
    has_stepped = made s before o u h.calls.may level call h.calls.asked h.calls.mine x h.here trace h.longer after (with_call o u trace then) then is_called tells refl refl

    pub has_stopped : HasStopped s before u after (with_call o u trace then)
    has_stopped = made_stopped s before o u h.calls.may level call h.calls.asked h.calls.mine x h.here trace h.longer after (with_call o u trace then) then is_called tells refl refl
