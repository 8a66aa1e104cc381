-- The history of a lock is the calls that were made under it. States docs/levels.md, "Locks".
use Rattle.std.specs.Prelude.{ℕ, List, [], ◌∷◌, ◌++◌, if◌then◌else◌}
use Rattle.psos_calls.specs.declared.level.Level.{Level}
use Rattle.psos_calls.specs.declared.lock_id.LockId.{LockId}
use Rattle.psos_calls.specs.declared.entry.Entry.{Entry}
use Rattle.psos_calls.specs.Levels.Calls.{LevelCall}
use Rattle.psos_calls.specs.Locks.{lock_of}
use Rattle.psos_calls.specs.Locks.Held.{same_lock}

-- those of these calls that are under the lock, among so many users
abbrev pub only : ℕ → LockId → List (Level × LevelCall) → List LevelCall
only n k [] = []
only n k (c ∷ calls) = if same_lock k (lock_of n c.1) then c.1 ∷ only n k calls else only n k calls

-- and those of entries, one entry after another
abbrev pub only_in : ℕ → LockId → List Entry → List LevelCall
only_in n k [] = []
only_in n k (e ∷ entries) = only n k e.steps ++ only_in n k entries
