-- The lock of a call. States docs/levels.md, "Locks".
pub mod Held
use Rattle.std.specs.Prelude.{ℕ, ◌-◌, ◌/◌, ◌%◌, ◌==◌, ◌&&◌, nat_lt, nat_le, if◌then◌else◌}
use Rattle.psos_calls.specs.declared.level.Level.{Level}
use Rattle.psos_calls.specs.declared.lock_id.LockId.{LockId}
use Rattle.psos_calls.specs.Levels.Calls.{LevelCall}
use Rattle.psos_calls.specs.declared.level_call.LevelCall.TheVariants.{Post, Draw}
use Rattle.psos_calls.specs.Levels.{level_of}

-- the number of the user whose process this is, among so many users; 0 where there is none
abbrev pub box_of : ℕ → ℕ → ℕ
box_of users uid =
    if nat_le 3 uid && ((uid - 3) % 4 == 0) && nat_lt ((uid - 3) / 4) users then (uid - 3) / 4 else 0

abbrev pub part_of : ℕ → LevelCall → ℕ
part_of users (Post to word) = box_of users to.uid
part_of users (Draw uid) = box_of users uid.0
part_of users _ = 0

-- its level, and at level 12 the mailbox
abbrev pub lock_of : ℕ → LevelCall → LockId
lock_of users call = record { level = level_of call; part = part_of users call }
