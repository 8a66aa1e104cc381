-- The locks that users hold, and which may be taken. States docs/levels.md, "Locks".
use Rattle.std.specs.Prelude.{ℕ, ◌==◌, ◌&&◌, ◌||◌, Bool, false, not, nat_lt, if◌then◌else◌, List, [], ◌∷◌}
use Rattle.std.specs.List.{list_all}
use Rattle.psos_calls.specs.declared.level.Level.{Level}
use Rattle.psos_calls.specs.declared.level.Level.TheVariants.{L13, L12, L11, L10, L9, L8, L7, L0}
use Rattle.psos_calls.specs.declared.lock_id.LockId.{LockId}

-- the number of a level: in the falling order the greater comes earlier
abbrev pub rank : Level → ℕ
rank L13 = 13
rank L12 = 12
rank L11 = 11
rank L10 = 10
rank L9 = 9
rank L8 = 8
rank L7 = 7
rank L0 = 0

abbrev pub same_lock : LockId → LockId → Bool
same_lock a b = (rank a.level == rank b.level) && (a.part == b.part)

-- the locks are the levels but 12, with part 0, and the mailboxes of so many users
abbrev pub is_lock : ℕ → LockId → Bool
is_lock users lock = if rank lock.level == 12 then nat_lt lock.part users else lock.part == 0

-- the lock is one of these
abbrev pub is_held : List LockId → LockId → Bool
is_held [] lock = false
is_held (k ∷ locks) lock = same_lock k lock || is_held locks lock

-- no user holds it, of those that hold these
abbrev pub is_free : List (List LockId) → LockId → Bool
is_free held lock = list_all (λ locks. not (is_held locks lock)) held

-- all of these are of levels that come earlier in the falling order
abbrev pub are_earlier : List LockId → LockId → Bool
are_earlier locks lock = list_all (λ (k : LockId). nat_lt (rank lock.level) (rank k.level)) locks

-- a user that holds these locks may take this one
abbrev pub may_take : List (List LockId) → List LockId → LockId → Bool
may_take held locks lock = is_free held lock && are_earlier locks lock
