-- Users of a run of threads. States docs/levels.md, "Phases" and "Journal".
use Rattle.std.specs.Prelude.{◌≡◌, ℕ, ◌+◌, ◌≤◌, ◌||◌, Bool, true, false, List, [], ◌∷◌, ◌++◌, length, replicate, slice_get, slice_index_or, Option, Some, None}
use mathlib.Core.List.{IsPrefix}
use Rattle.psos_calls.specs.declared.entry.Entry.{Entry}
use Rattle.psos_calls.specs.Language.Script.{Script}
use Rattle.psos_calls.specs.Language.User.{User}
use Rattle.psos_model.specs.Run.{phase_of, is_open, is_now}
use Rattle.psos_model.specs.Replay.{boot_system}
use Rattle.psos_journal.specs.declared.stop_cause.StopCause.{StopCause}
use Rattle.psos_journal.specs.Views.{Side, Known, list_of, new_side, told_after}
use Rattle.psos_histories.specs.Records.{replay_in}
use Rattle.psos_histories.specs.Phases.{IsPast}
use Rattle.psos_calls.specs.declared.request.Request.{Request}
use Rattle.psos_calls.specs.declared.step.Step.{Step}
use Rattle.psos_histories.specs.Grips.{Grip}
use Rattle.psos_locks.specs.Runs.{IsOwn, InWork}

-- a user's own part, its member, its phase, what it knows of the last entry of each user, and the calls of its open request, or what is left of the last one's
pub record OwnView : Type 0 where
  pub own : User
  pub side : Side Entry
  pub phase : ℕ
  pub receipts : List (Option (Known Entry))
  pub trace : List Step

-- with whether it is halted, and how many phases it was served in
pub record UserView : Type 0 where
  pub who : OwnView
  pub halted : Bool
  pub served : ℕ

-- the entries that a receipt knows, or none
abbrev pub past_of : Option (Known Entry) → List (Entry × ℕ)
past_of None = []
past_of (Some receipt) = receipt.past

-- what is known of user v
abbrev pub past_in : List (Option (Known Entry)) → ℕ → List (Entry × ℕ)
past_in receipts v = past_of (slice_index_or receipts v None)

-- after these entries, user v, if there is one, asks nothing more of the phases before p
abbrev pub ShowsPast : Script → ℕ → ℕ → List (Entry × ℕ) → Type 0
ShowsPast s p v past = IsPast s p v (replay_in s (boot_system s) past).users

-- by the receipts, nobody asks anything more of the phases before p
abbrev pub ShowPast : Script → ℕ → List (Option (Known Entry)) → Type 0
ShowPast s p receipts = (v : ℕ) → ShowsPast s p v (past_in receipts v)

-- what holds of a user between two requests
pub record IsUser (s : Script) (u : OwnView) : Type 0 where
  pub own_is : IsOwn s u.side u.own
  pub past : ShowsPast s u.phase u.side.number u.side.past
  pub shown : ShowPast s u.phase u.receipts

-- it has an open body, or asks anything more of its phase
abbrev pub has_more : Script → OwnView → Bool
has_more s u = is_open u.own.frames || is_now (phase_of s u.own) (Some u.phase)

-- what it asks next is of no phase before its own
abbrev pub IsAhead : Script → OwnView → Type 0
IsAhead s u = (q : ℕ) → phase_of s u.own ≡ Some q → u.phase ≤ q

-- ---- all users

-- user i of so many before the first entry
abbrev pub new_user : ℕ → ℕ → User → UserView
new_user n i x = record { who = record { own = x; side = new_side i; phase = 0; receipts = replicate n None; trace = [] }; halted = false; served = 0 }

-- these are the users of the script, in order, before the first entry
pub record AreNewUsers (s : Script) (users : List UserView) : Type 0 where
  pub all : length users ≡ length s.users
  pub each : (i : ℕ) (x : User) → slice_get (boot_system s).users i ≡ Some x → slice_get users i ≡ Some (new_user (length s.users) i x)

-- these are the users of the script, in order, each with room for what it knows of all of them
pub record AreUsers (s : Script) (users : List UserView) : Type 0 where
  pub all : length users ≡ length s.users
  pub numbers : (i : ℕ) (u : UserView) → slice_get users i ≡ Some u → u.who.side.number ≡ i
  pub rooms : (i : ℕ) (u : UserView) → slice_get users i ≡ Some u → length u.who.receipts ≡ length s.users

-- ---- a request

-- a request of a user is at work, with these locks
abbrev pub IsAtWork : Script → OwnView → Request → List Grip → Type 0
IsAtWork s u request grips = InWork s u.side u.own request grips u.trace

-- it made calls; all else is as it was
pub record HasGone (old new : OwnView) : Type 0 where
  pub rest : new ≡ record old { trace = new.trace }

-- one entry more names the user: it is the user's, at this stamp; the phase and what is known of others are as they were
pub record HasClosed (old : OwnView) (stamp : ℕ) (new : OwnView) : Type 0 where
  pub entry : Entry
  pub user : entry.user ≡ old.side.number
  pub added : list_of new.side ≡ list_of old.side ++ entry ∷ []
  pub last : stamp + 1 ≡ length new.side.past
  pub rest : new ≡ record old { own = new.own; side = record old.side { past = new.side.past }; trace = new.trace }

-- the user is told where the cause is the store; else all is as it was, but for the calls that were made
pub record HasStopped (old : OwnView) (cause : StopCause) (new : OwnView) : Type 0 where
  pub rest : new ≡ record old { side = record old.side { told = told_after old.side.told (Some cause) }; trace = new.trace }

-- ---- a phase

-- a user was served in its phase: its number, the phase and what it knows of others are as before, and it has the entries that it had, and maybe more; it is halted, or has no open body and asks nothing more of the phase; and who was halted made no request
pub record WorkedOn (s : Script) (old new : UserView) : Type 0 where
  pub number : new.who.side.number ≡ old.who.side.number
  pub phase : new.who.phase ≡ old.who.phase
  pub receipts : new.who.receipts ≡ old.who.receipts
  pub entries : IsPrefix (list_of old.who.side) (list_of new.who.side)
  pub ahead : new.halted ≡ false → IsAhead s new.who
  pub through : new.halted ≡ false → has_more s new.who ≡ false
  pub kept : old.halted ≡ true → new ≡ record old { served = new.served }

-- ---- the next phase

-- it knows of each of these users what the user's own member knows, and its phase is the next one
pub record HasMet (users : List UserView) (old new : OwnView) : Type 0 where
  pub receipts_are : (v : ℕ) (u : UserView) → slice_get users v ≡ Some u → past_in new.receipts v ≡ u.who.side.past
  pub room : length new.receipts ≡ length old.receipts
  pub rest : new ≡ record old { phase = old.phase + 1; receipts = new.receipts }

-- it is in the phase before the next one, is not halted, and has no open body and asks nothing more of its phase
pub record IsThrough (s : Script) (next : ℕ) (u : UserView) : Type 0 where
  pub phase : u.who.phase + 1 ≡ next
  pub going : u.halted ≡ false
  pub through : has_more s u.who ≡ false

-- so are all these users
abbrev pub AreThrough : Script → ℕ → List UserView → Type 0
AreThrough s next users = (i : ℕ) (u : UserView) → slice_get users i ≡ Some u → IsThrough s next u

-- each has met all of them, and is otherwise as it was
abbrev pub AllMet : List UserView → List UserView → Type 0
AllMet old new = (i : ℕ) (a b : UserView) → slice_get old i ≡ Some a → slice_get new i ≡ Some b → HasMet old a.who b.who × (b.halted ≡ a.halted) × (b.served ≡ a.served)

-- ---- the end of all phases

-- where nobody is halted, no user has an open body, and none asks anything more
abbrev pub AreOver : Script → List UserView → Type 0
AreOver s users = ((i : ℕ) (u : UserView) → slice_get users i ≡ Some u → u.halted ≡ false)
    → (i : ℕ) (u : UserView) → slice_get users i ≡ Some u → (is_open u.who.own.frames ≡ false) × (phase_of s u.who.own ≡ None)
