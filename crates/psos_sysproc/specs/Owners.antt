-- Who holds each lock, among so many users. States docs/levels.md, "Locks".
use Rattle.std.specs.Prelude.{◌≡◌, ◌<◌, ℕ, ◌+◌, Bool, false, nat_eq, if◌then◌else◌, List, [], ◌∷◌, ◌++◌, Option, Some, None, length, map, slice_index_or}
use Rattle.std.specs.List.{range_with_len, AllByRecursion}
use Rattle.psos_calls.specs.declared.level.Level.{Level}
use Rattle.psos_calls.specs.declared.level.Level.TheVariants.{L13, L12, L11, L10, L9, L8, L7, L0}
use Rattle.psos_calls.specs.declared.lock_id.LockId.{LockId}
use Rattle.psos_calls.specs.Locks.Held.{rank}

-- ---- the locks among so many users, those of later levels first

abbrev pub whole : Level → LockId
whole level = record { level = level; part = 0 }

abbrev pub mailbox : ℕ → LockId
mailbox part = record { level = L12; part = part }

abbrev pub all_locks : ℕ → List LockId
all_locks users = whole L0 ∷ whole L7 ∷ whole L8 ∷ whole L9 ∷ whole L10 ∷ whole L11 ∷ map mailbox (range_with_len 0 users) ++ whole L13 ∷ []

-- where a lock stands among them
abbrev pub place_at : Level → ℕ → ℕ → ℕ
place_at L13 users part = 6 + users
place_at L12 users part = 6 + part
place_at L11 users part = 5
place_at L10 users part = 4
place_at L9 users part = 3
place_at L8 users part = 2
place_at L7 users part = 1
place_at L0 users part = 0

abbrev pub place : ℕ → LockId → ℕ
place users lock = place_at lock.level users lock.part

-- ---- what a user holds, by who holds each

abbrev pub is_owner : ℕ → Option ℕ → Bool
is_owner u None = false
is_owner u (Some v) = nat_eq v u

-- of these locks, with who holds each
abbrev pub owned : ℕ → List LockId → List (Option ℕ) → List LockId
owned u [] owners = []
owned u (k ∷ locks) [] = []
owned u (k ∷ locks) (o ∷ owners) = if is_owner u o then k ∷ owned u locks owners else owned u locks owners

abbrev pub holding : ℕ → List (Option ℕ) → ℕ → List LockId
holding users owners u = owned u (all_locks users) owners

unfoldable pub holdings : ℕ → List (Option ℕ) → List (List LockId)
holdings users owners = map (holding users owners) (range_with_len 0 users)

-- the rank of the first, and 14 where there is none
abbrev pub first_rank : List LockId → ℕ
first_rank [] = 14
first_rank (k ∷ locks) = rank k.level

-- who holds a lock is one of so many users
abbrev pub IsUser : ℕ → Option ℕ → Type 0
IsUser users None = Unit {0}
IsUser users (Some v) = v < users

-- what a table keeps: an owner for each lock, and for each user the rank of the lock that it took last
pub record IsTable (owners : List (Option ℕ)) (lowest : List ℕ) : Type 0 where
  pub all : length owners ≡ 7 + length lowest
  pub users : AllByRecursion (IsUser (length lowest)) owners
  pub ranks : (u : ℕ) → u < length lowest → slice_index_or lowest u 14 ≡ first_rank (holding (length lowest) owners u)

-- nobody of these is user u any more
abbrev pub without_user : ℕ → List (Option ℕ) → List (Option ℕ)
without_user u owners = map (λ o. if is_owner u o then None else o) owners
