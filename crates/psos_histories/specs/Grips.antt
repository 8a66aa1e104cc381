-- What stands behind a lock: its member of the journal, what lies under it, and whether it is broken. States docs/levels.md, "Locks" and "Journal".
use Rattle.std.specs.Prelude.{◌≡◌, ℕ, Bool, false, List, [], ◌∷◌, length, IsTrue}
use Rattle.psos_calls.specs.declared.lock_id.LockId.{LockId}
use Rattle.psos_calls.specs.declared.entry.Entry.{Entry}
use Rattle.psos_calls.specs.Language.Script.{Script}
use Rattle.psos_calls.specs.Levels.{Levels}
use Rattle.psos_calls.specs.Locks.Held.{is_lock, is_held}
use Rattle.psos_model.specs.Flat.{Flat}
use Rattle.psos_model.specs.Replay.{System}
use Rattle.psos_journal.specs.Members.{named}
use Rattle.psos_journal.specs.Views.{Side, list_of, new_side}
use Rattle.psos_histories.specs.Pieces.{Piece, piece_at}
use Rattle.psos_histories.specs.Names.{member_of}
use Rattle.psos_histories.specs.Records.{left_by_history, IsRecorded}

-- a lock with what stands behind it
pub record Grip : Type 0 where
  pub lock : LockId
  pub side : Side Entry
  pub piece : Piece
  pub broken : Bool

-- the member is that of the lock, among so many users
pub record IsMatched (n : ℕ) (g : Grip) : Type 0 where
  pub lock : IsTrue (is_lock n g.lock)
  pub number : g.side.number ≡ member_of n g.lock

-- what lies under it is what the history of its own member leaves, from the start
abbrev pub IsReplayed : Script → System → Grip → Type 0
IsReplayed s y g = g.piece ≡ left_by_history s y g.lock (list_of g.side)

-- what holds whenever the lock is free: it is replayed, or broken
pub record IsFreeGrip (s : Script) (y : System) (g : Grip) : Type 0 where
  pub matched : IsMatched (length s.users) g
  pub whole : g.broken ≡ false → IsReplayed s y g

-- so it is of each of these
abbrev pub AreFree : Script → System → List Grip → Type 0
AreFree s y [] = Unit {0}
AreFree s y (g ∷ grips) = IsFreeGrip s y g × AreFree s y grips

-- a lock before the first entry
abbrev pub new_grip : ℕ → System → LockId → Grip
new_grip n y k = record { lock = k; side = new_side (member_of n k); piece = piece_at k y.levels; broken = false }

-- ---- locks that one holds; the last that was taken stands first

abbrev pub locks_of : List Grip → List LockId
locks_of [] = []
locks_of (g ∷ grips) = g.lock ∷ locks_of grips

-- the member's list is that of the journal's entries that name it
abbrev pub HasMet : List (Entry × ℕ) → Grip → Type 0
HasMet log g = list_of g.side ≡ named g.side.number log

-- so is that of each of their members
abbrev pub HaveMet : List (Entry × ℕ) → List Grip → Type 0
HaveMet log [] = Unit {0}
HaveMet log (g ∷ grips) = HasMet log g × HaveMet log grips

-- no two are one lock, and what lies under each is as in these levels
abbrev pub AreIn : ℕ → Levels → List Grip → Type 0
AreIn n l [] = Unit {0}
AreIn n l (g ∷ grips) = IsMatched n g × (g.piece ≡ piece_at g.lock l) × (is_held (locks_of grips) g.lock ≡ false) × AreIn n l grips

-- ---- law

-- before the first entry nothing is recorded, and each lock is free
pub record IsNew (s : Script) (y : System) (f : Flat) : Type 0 where
  pub recorded : IsRecorded s y f []
  pub free : (k : LockId) → IsTrue (is_lock (length s.users) k) → IsFreeGrip s y (new_grip (length s.users) y k)

-- so a run begins
abbrev pub HistoriesBegin : Type 0
HistoriesBegin = (s : Script) (y : System) (f : Flat) → IsNew s y f
