-- A request at work, under the locks that it holds, while others close. States docs/levels.md, "Locks".
use Rattle.std.specs.Prelude.{◌≡◌, ℕ, ◌≤◌, true, false, if◌then◌else◌, List, [], ◌∷◌, ◌++◌, length, slice_get, Some, IsTrue}
use Rattle.psos_limits.specs.declared.TheConstants.{MOST_CALLS}
use Rattle.psos_calls.specs.declared.lock_id.LockId.{LockId}
use Rattle.psos_calls.specs.declared.step.Step.{Step}
use Rattle.psos_calls.specs.declared.request.Request.{Request}
use Rattle.psos_calls.specs.declared.entry.Entry.{Entry}
use Rattle.psos_calls.specs.Language.Script.{Script}
use Rattle.psos_calls.specs.Language.User.{User, next_request}
use Rattle.psos_calls.specs.Levels.{level_of}
use Rattle.psos_calls.specs.Levels.Calls.{LevelCall}
use Rattle.psos_calls.specs.Levels.Answers.{LevelAnswer}
use Rattle.psos_calls.specs.declared.level_answer.LevelAnswer.TheVariants.{Done}
use Rattle.psos_calls.specs.Locks.{lock_of}
use Rattle.psos_calls.specs.Locks.Held.{same_lock, is_held, are_earlier}
use Rattle.psos_calls.specs.Plan.{Plan, Ask}
use Rattle.psos_calls.specs.Plan.Requests.{plan_of}
use Rattle.psos_calls.specs.Plan.Trace.{followed, IsTraceOf}
use Rattle.psos_model.specs.Flat.{Flat}
use Rattle.psos_model.specs.Replay.{System}
use Rattle.psos_model.specs.Events.Serial.{IsCoreStart, traced}
use Rattle.psos_histories.specs.Pieces.{act_piece, can_piece}
use Rattle.psos_histories.specs.Falling.{Falls}
use Rattle.psos_histories.specs.Records.{replay_in, IsRecorded}
use Rattle.psos_histories.specs.Grips.{Grip, IsFreeGrip, locks_of, HasMet, HaveMet, AreIn}

-- each call of the trace is under one of these locks, among so many users
abbrev pub AreUnder : ℕ → List LockId → List Step → Type 0
AreUnder n locks [] = Unit {0}
AreUnder n locks (t ∷ trace) = (is_held locks (lock_of n t.call) ≡ true) × AreUnder n locks trace

-- user u, whose own part is x, is at work on this plan, holds these locks and has made the calls of the trace; the journal had these entries when the user last looked
pub record IsWorking (s : Script) (y : System) (f : Flat) (u : ℕ) (x : User) (plan : Plan) (grips : List Grip) (trace : List Step) (log : List (Entry × ℕ)) : Type 0 where
  -- they are recorded, their replay leaves the user this part, and all its locks have met them
  pub recorded : IsRecorded s y f log
  pub here : slice_get (replay_in s y log).users u ≡ Some x
  pub met : HaveMet log grips
  -- the trace is a front of the plan's run from the levels of their replay, and its calls were made under the locks, which are as it leaves them
  pub trace_is : IsTraceOf plan (replay_in s y log).levels trace
  pub under : AreUnder (length s.users) (locks_of grips) trace
  pub grips_are : AreIn (length s.users) (traced (replay_in s y log).levels trace) grips
  -- what is left of the plan asks for its locks in the falling order
  pub falls : Falls (length s.users) (locks_of grips) (followed plan trace)

-- ---- a call

-- the lock has what the call leaves, and counts as broken until the close
abbrev pub called_one : Grip → LevelCall → Grip
called_one g call = record g { piece = (act_piece g.piece call).0; broken = true }

-- a call is made under this lock, among those that are held
abbrev pub called : List Grip → LockId → LevelCall → List Grip
called [] k call = []
called (g ∷ grips) k call = if same_lock g.lock k then called_one g call ∷ grips else g ∷ called grips k call

-- what it answers
abbrev pub answer_in : List Grip → LockId → LevelCall → LevelAnswer
answer_in [] k call = Done
answer_in (g ∷ grips) k call = if same_lock g.lock k then (act_piece g.piece call).1 else answer_in grips k call

-- the call with its answer, as it joins the trace
abbrev pub step_in : List Grip → LockId → LevelCall → Step
step_in grips k call = record { level = level_of call; call = call; answer = answer_in grips k call }

-- it can be made there
abbrev pub CanIn : List Grip → LockId → LevelCall → Type 0
CanIn grips k call = (i : ℕ) (g : Grip) → slice_get grips i ≡ Some g → same_lock g.lock k ≡ true → can_piece g.piece call

-- ---- laws of a request at work, in any run from a start

-- it begins with no lock and no call, where its plan asks for its locks in the falling order
abbrev pub RequestsBegin : Type 0
RequestsBegin = (s : Script) (y : System) (f : Flat) (u : ℕ) (x : User) (plan : Plan) (log : List (Entry × ℕ)) → IsRecorded s y f log
    → slice_get (replay_in s y log).users u ≡ Some x → Falls (length s.users) [] plan → IsWorking s y f u x plan [] [] log

-- others closed since: it goes on where its locks have met their entries too, and its user's part is as it was
abbrev pub RequestsGoOn : Type 0
RequestsGoOn = (s : Script) (y : System) (f : Flat) (u : ℕ) (x : User) (plan : Plan) (grips : List Grip) (trace : List Step) (log more : List (Entry × ℕ))
    → IsCoreStart s y f → IsWorking s y f u x plan grips trace log
    → IsRecorded s y f more → slice_get (replay_in s y more).users u ≡ Some x → HaveMet more grips → IsWorking s y f u x plan grips trace more

-- the lock of the call that its plan asks for is of a later level than all that it holds, and it takes that lock, where that is not broken and has met the same entries
pub record MayTake (s : Script) (y : System) (f : Flat) (u : ℕ) (x : User) (plan : Plan) (grips : List Grip) (trace : List Step) (log : List (Entry × ℕ)) (lock : LockId) : Type 0 where
  pub later : IsTrue (are_earlier (locks_of grips) lock)
  pub taken : (g : Grip) → g.lock ≡ lock → IsFreeGrip s y g → g.broken ≡ false → HasMet log g → IsWorking s y f u x plan (g ∷ grips) trace log

-- so it is of a lock that it does not hold
abbrev pub LocksAreTaken : Type 0
LocksAreTaken = (s : Script) (y : System) (f : Flat) (u : ℕ) (x : User) (plan : Plan) (grips : List Grip) (trace : List Step) (log : List (Entry × ℕ)) (call : LevelCall) (go : LevelAnswer → Plan)
    → IsCoreStart s y f → IsWorking s y f u x plan grips trace log
    → followed plan trace ≡ Ask call go → is_held (locks_of grips) (lock_of (length s.users) call) ≡ false
    → MayTake s y f u x plan grips trace log (lock_of (length s.users) call)

-- it makes the call that its plan asks for, under a lock that it holds
abbrev pub CallsAreMade : Type 0
CallsAreMade = (s : Script) (y : System) (f : Flat) (u : ℕ) (x : User) (plan : Plan) (grips : List Grip) (trace : List Step) (log : List (Entry × ℕ)) (call : LevelCall) (go : LevelAnswer → Plan)
    → IsCoreStart s y f → IsWorking s y f u x plan grips trace log
    → followed plan trace ≡ Ask call go → is_held (locks_of grips) (lock_of (length s.users) call) ≡ true
    → IsWorking s y f u x plan (called grips (lock_of (length s.users) call) call) (trace ++ step_in grips (lock_of (length s.users) call) call ∷ []) log

-- where the plan is that of the user's next request, that call can be made, and the calls are few
pub record IsAble (s : Script) (x : User) (request : Request) (grips : List Grip) (trace : List Step) : Type 0 where
  pub can : (call : LevelCall) (go : LevelAnswer → Plan) → followed (plan_of x request) trace ≡ Ask call go → CanIn grips (lock_of (length s.users) call) call
  pub few : length trace ≤ MOST_CALLS

-- so it is of any request at work
abbrev pub RequestsAreAble : Type 0
RequestsAreAble = (s : Script) (y : System) (f : Flat) (u : ℕ) (x : User) (request : Request) (grips : List Grip) (trace : List Step) (log : List (Entry × ℕ))
    → IsCoreStart s y f → IsWorking s y f u x (plan_of x request) grips trace log → next_request s x ≡ Some request → IsAble s x request grips trace
