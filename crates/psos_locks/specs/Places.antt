-- The places at which a request holds its locks, one after another. States docs/levels.md, "Locks".
use Rattle.std.specs.Prelude.{◌≡◌, ℕ, ◌^◌, Bool, false, List, [], ◌∷◌, Option, Some, None, IfSome}
use Rattle.std.specs.Int.{bit_at}
use Rattle.std.specs.Int.Bits.{bit_xor}
use Rattle.std.specs.Sync.Mutex.{mutex_guard_value}
use Rattle.std.specs.declared.sync.MutexGuard.{MutexGuard}
use Rattle.psos_io.specs.Causes.{Rose}
use Rattle.psos_calls.specs.declared.lock_id.LockId.{LockId}
use Rattle.psos_calls.specs.declared.entry.Entry.{Entry}
use Rattle.psos_calls.specs.declared.step.Step.{Step}
use Rattle.psos_calls.specs.Language.Script.{Script}
use Rattle.psos_calls.specs.Levels.Calls.{LevelCall}
use Rattle.psos_calls.specs.Locks.Held.{same_lock}
use Rattle.psos_model.specs.Replay.{boot_system}
use Rattle.psos_journal.specs.Views.{Side}
use Rattle.psos_pages.specs.State.{PagesState}
use Rattle.psos_histories.specs.Pieces.{act_piece, can_piece}
use Rattle.psos_histories.specs.Grips.{Grip, IsReplayed}

-- the lock is held here
abbrev pub holds_in : LockId → Option Grip → Bool
holds_in lock None = false
holds_in lock (Some g) = same_lock g.lock lock

-- ---- a call

-- the call is of the lock that is held here, and may be made
pub record CanMake (lock : LockId) (call : LevelCall) (place : Option Grip) : Type 0 where
  pub grip : Grip
  pub there : place ≡ Some grip
  pub same : lock ≡ grip.lock
  pub can : can_piece grip.piece call

-- the call with its answer, as it joins the trace
abbrev pub step_of : Grip → LevelCall → Step
step_of g call = record { level = g.lock.level; call = call; answer = (act_piece g.piece call).1 }

-- something is there, and is so
abbrev pub IsSomeThat : {X : Type 0} → Option X → (X → Type 0) → Type 0
IsSomeThat None P = ⊥
IsSomeThat (Some x) P = P x

-- level 7 is held, and its store failed since the run began
abbrev pub HasFailed : {B : Type 0} → ℕ → (B → ℕ) → Option (MutexGuard ((PagesState B × ℕ) × Side Entry × Bool)) → Type 0
HasFailed {B} before faults place = IsSomeThat place (λ (g : MutexGuard ((PagesState B × ℕ) × Side Entry × Bool)). Rose before (faults (mutex_guard_value g).0.0.store))

-- ---- the members behind the locks

-- the bit of the member behind the lock that is held here, if any, is turned over
abbrev pub named_by : ℕ → Option Grip → ℕ
named_by names None = names
named_by names (Some g) = bit_xor names (2 ^ g.side.number)

-- the pen has the bit of the lock that is held here, if any, and with these entries what lies under it is what its history leaves
abbrev pub MaySettleOne : Script → List (Entry × ℕ) → ℕ → Option Grip → Type 0
MaySettleOne s log pen place = IfSome place (λ g. (bit_at pen g.side.number ≡ 1) × IsReplayed s (boot_system s) (record g { side = record g.side { past = log }; broken = false }))

-- what is left of the pen when the locks of these places are entered
abbrev pub left_by : List (Option Grip) → ℕ → ℕ
left_by [] pen = pen
left_by (place ∷ places) pen = left_by places (named_by pen place)

-- so it is of one place after another
abbrev pub MaySettle : Script → List (Entry × ℕ) → List (Option Grip) → ℕ → Type 0
MaySettle s log [] pen = Unit {0}
MaySettle s log (place ∷ places) pen = MaySettleOne s log pen place × MaySettle s log places (named_by pen place)
