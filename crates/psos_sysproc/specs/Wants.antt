-- What users may do, by the locks that all of them hold. States docs/levels.md, "Locks".
use Rattle.std.specs.Prelude.{ℕ, Bool, true, List, [], ◌∷◌, slice_index_or, slice_set}
use Rattle.psos_calls.specs.declared.lock_id.LockId.{LockId}
use Rattle.psos_calls.specs.Locks.Held.{is_lock, is_held, may_take}
use Rattle.psos_sysproc.specs.declared.want.Want.{Want}
use Rattle.psos_sysproc.specs.declared.want.Want.TheVariants.{Take, Call, Close}

-- the locks that user u holds, of those that each user holds
abbrev pub locks_of : List (List LockId) → ℕ → List LockId
locks_of held u = slice_index_or held u []

-- its lock is one of those among so many users
abbrev pub is_known : ℕ → Want → Bool
is_known users (Take lock) = is_lock users lock
is_known users (Call lock) = is_lock users lock
is_known users Close = true

-- a lock is taken where it may be, a call is made under a lock that is held, and a close always
abbrev pub is_enabled : List (List LockId) → ℕ → Want → Bool
is_enabled held u (Take lock) = may_take held (locks_of held u) lock
is_enabled held u (Call lock) = is_held (locks_of held u) lock
is_enabled held u Close = true

-- ---- what is held then

-- user u has taken a lock
abbrev pub taken : List (List LockId) → ℕ → LockId → List (List LockId)
taken held u lock = slice_set held u (lock ∷ locks_of held u)

-- user u holds none
abbrev pub released : List (List LockId) → ℕ → List (List LockId)
released held u = slice_set held u []
