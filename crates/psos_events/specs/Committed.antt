-- The committed state of a lock is its value when it was last free. States docs/levels.md, "Locks".
use Rattle.std.specs.Prelude.{◌≡◌, ℕ, false, if◌then◌else◌, List, [], ◌∷◌, length, Option, Some, IsTrue}
use Rattle.psos_calls.specs.declared.lock_id.LockId.{LockId}
use Rattle.psos_calls.specs.Language.Script.{Script}
use Rattle.psos_calls.specs.Levels.{Levels}
use Rattle.psos_calls.specs.Locks.Held.{is_lock, is_held, is_free}
use Rattle.psos_model.specs.Flat.{Flat}
use Rattle.psos_model.specs.Replay.{System, replay_step}
use Rattle.psos_model.specs.Events.{CoreState, Event, Close, core_of, locks_of, event_of, core_step, core_after, AreEnabled}
use Rattle.psos_model.specs.Events.Serial.{SameAt, IsCoreStart, committed}

-- the levels of the core where the lock is free, and else those that were seen before
abbrev pub if_free : LockId → CoreState → Levels → Levels
if_free k c seen = if is_free c.held k then c.levels else seen

-- the levels when the lock was last free along the events of these users, and where it never was those that were seen before
abbrev pub last_free : Script → LockId → CoreState → Levels → List ℕ → Levels
last_free s k c seen [] = if_free k c seen
last_free s k c seen (u ∷ us) = last_free s k (core_step s c u) (if_free k c seen) us

-- after any events from a start, what is committed to a lock is what lay under it when it was last free
abbrev pub CommittedWasFree : Type 0
CommittedWasFree = (s : Script) (y : System) (f : Flat) (us : List ℕ) → IsCoreStart s y f → AreEnabled s (core_of y) us
    → (k : LockId) → IsTrue (is_lock (length s.users) k)
    → SameAt k.level k.part (last_free s k (core_of y) y.levels us) (committed s y (core_after s (core_of y) us)).levels

-- what is committed after user u's event: a close commits the request that it closes, and a take or a call nothing
abbrev pub committed_by : Script → System → ℕ → Option Event → System
committed_by s y u (Some (Close reply effect)) = (replay_step s y u).0
committed_by s y u _ = y

-- so each event commits what it closes, and nothing more
abbrev pub ClosesCommit : Type 0
ClosesCommit = (s : Script) (y : System) (c : CoreState) (u : ℕ) → committed s y (core_step s c u) ≡ committed_by s (committed s y c) u (event_of s c u)

-- after any events from a start, an event of a user that does not hold a lock leaves what is committed to it
abbrev pub OthersCommitElsewhere : Type 0
OthersCommitElsewhere = (s : Script) (y : System) (f : Flat) (us : List ℕ) → IsCoreStart s y f → AreEnabled s (core_of y) us
    → (k : LockId) → IsTrue (is_lock (length s.users) k) → (u : ℕ) → is_held (locks_of (core_after s (core_of y) us) u) k ≡ false
    → SameAt k.level k.part (committed s y (core_step s (core_after s (core_of y) us) u)).levels (committed s y (core_after s (core_of y) us)).levels
