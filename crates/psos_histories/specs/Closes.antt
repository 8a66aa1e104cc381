-- A request at work closes: its entry comes last, and its locks are free and whole again. States docs/levels.md, "Locks" and "Journal".
use Rattle.std.specs.Int.Bits.{bit_xor}
use Rattle.std.specs.Int.{bit_at}
use Rattle.std.specs.Prelude.{◌≡◌, ℕ, ◌^◌, ◌<◌, ◌↔◌, true, false, List, [], ◌∷◌, ◌++◌, length, slice_get, Some, IsTrue}
use mathlib.Core.List.{IsPrefix}
use Rattle.psos_calls.specs.declared.lock_id.LockId.{LockId}
use Rattle.psos_calls.specs.declared.step.Step.{Step}
use Rattle.psos_calls.specs.declared.entry.Entry.{Entry}
use Rattle.psos_calls.specs.declared.request.Request.{Request}
use Rattle.psos_calls.specs.declared.reply.Reply.{Reply}
use Rattle.psos_calls.specs.declared.effect.Effect.{Effect}
use Rattle.psos_calls.specs.Language.Script.{Script}
use Rattle.psos_calls.specs.Language.User.{User, next_request, place_of, after, CanSettle}
use Rattle.psos_calls.specs.Levels.{Levels}
use Rattle.psos_calls.specs.Locks.Held.{is_held}
use Rattle.psos_calls.specs.Plan.{Close}
use Rattle.psos_calls.specs.Plan.Requests.{plan_of}
use Rattle.psos_calls.specs.Plan.Trace.{followed, calls_in}
use Rattle.psos_model.specs.Flat.{Flat}
use Rattle.psos_model.specs.Run.{has_left}
use Rattle.psos_model.specs.Replay.{System}
use Rattle.psos_model.specs.Events.Serial.{IsCoreStart}
use Rattle.psos_journal.specs.Members.{named}
use Rattle.psos_histories.specs.Names.{member_of, members_for, AllNamed}
use Rattle.psos_histories.specs.Records.{replay_in, IsRecorded}
use Rattle.psos_histories.specs.Grips.{Grip, locks_of, AreIn, AreFree}
use Rattle.psos_histories.specs.Requests.{IsWorking}

-- the entry of user u's request, by its trace and its reply
abbrev pub entry_for : ℕ → User → List Step → Reply → Entry
entry_for u x trace reply = record { user = u; n = (place_of x).0; m = (place_of x).1; steps = calls_in trace; reply = reply }

-- ---- the names of the entry

-- the user's bit, and that of each lock that is held
abbrev pub bits_for : ℕ → List Grip → ℕ
bits_for u [] = 2 ^ u
bits_for u (g ∷ grips) = bit_xor (bits_for u grips) (2 ^ g.side.number)

-- they name the user and no other one, and each lock that is held; and they are members
pub record AreNames (n u : ℕ) (grips : List Grip) (names : ℕ) : Type 0 where
  pub user : (v : ℕ) → v < n → (bit_at names v ≡ 1) ↔ (u ≡ v)
  pub locks : (k : LockId) → is_held (locks_of grips) k ≡ true → bit_at names (member_of n k) ≡ 1
  pub members : names < 2 ^ members_for n

-- so do these bits, where the locks are apart
abbrev pub BitsAreNames : Type 0
BitsAreNames = (n u : ℕ) (l : Levels) (grips : List Grip) → u < n → AreIn n l grips → AreNames n u grips (bits_for u grips)

-- ---- the close

-- each lock's member has met these entries, and it is not broken
abbrev pub freed : List (Entry × ℕ) → List Grip → List Grip
freed log [] = []
freed log (g ∷ grips) = record g { side = record g.side { past = log }; broken = false } ∷ freed log grips

-- the entries are recorded, user u's part is z, and its locks are free
pub record IsClosed (s : Script) (y : System) (f : Flat) (u : ℕ) (z : User) (grips : List Grip) (log : List (Entry × ℕ)) : Type 0 where
  pub recorded : IsRecorded s y f log
  pub here : slice_get (replay_in s y log).users u ≡ Some z
  pub free : AreFree s y (freed log grips)

-- where the plan closes and the user has a request left, its part can be settled, and with the entry last it is closed
pub record CanClose (s : Script) (y : System) (f : Flat) (u : ℕ) (x : User) (grips : List Grip) (trace : List Step) (log : List (Entry × ℕ)) (reply : Reply) (effect : Effect) : Type 0 where
  pub settle : CanSettle x effect
  pub closed : (names : ℕ) → AreNames (length s.users) u grips names
      → IsClosed s y f u (after s x effect) grips (log ++ (entry_for u x trace reply, names) ∷ [])

-- so it is of any request at work, in any run from a start
abbrev pub RequestsClose : Type 0
RequestsClose = (s : Script) (y : System) (f : Flat) (u : ℕ) (x : User) (request : Request) (grips : List Grip) (trace : List Step) (log : List (Entry × ℕ)) (reply : Reply) (effect : Effect)
    → IsCoreStart s y f → IsWorking s y f u x (plan_of x request) grips trace log → next_request s x ≡ Some request
    → followed (plan_of x request) trace ≡ Close reply effect → IsTrue (has_left s (replay_in s y log).users u)
    → CanClose s y f u x grips trace log reply effect

-- ---- a user's own part

-- it is the same after all entries and after a front of them that has all that name the user
abbrev pub UsersStay : Type 0
UsersStay = (s : Script) (y : System) (u : ℕ) (past log : List (Entry × ℕ)) → u < length s.users → AllNamed (length s.users) log
    → IsPrefix past log → named u past ≡ named u log → slice_get (replay_in s y log).users u ≡ slice_get (replay_in s y past).users u
