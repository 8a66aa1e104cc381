-- The members of a journal that an entry names: its user, and the locks under which it has a call. States docs/levels.md, "Journal".
use Rattle.std.specs.Prelude.{◌≡◌, ℕ, ◌+◌, ◌<◌, ◌≤◌, List, [], ◌∷◌, ◌↔◌, ◌⊎◌, IsTrue}
use Rattle.std.specs.Int.{bit_at}
use Rattle.psos_calls.specs.declared.level.Level.{Level}
use Rattle.psos_calls.specs.declared.level.Level.TheVariants.{L13, L12, L11, L10, L9, L8, L7, L0}
use Rattle.psos_calls.specs.declared.lock_id.LockId.{LockId}
use Rattle.psos_calls.specs.declared.entry.Entry.{Entry}
use Rattle.psos_calls.specs.Locks.Held.{is_lock}
use Rattle.psos_histories.specs.Histories.{only}

-- behind the users stand the levels in the falling order, and then the mailboxes
abbrev pub place_of_level : Level → ℕ
place_of_level L13 = 0
place_of_level L11 = 1
place_of_level L10 = 2
place_of_level L9 = 3
place_of_level L8 = 4
place_of_level L7 = 5
place_of_level L0 = 6
place_of_level L12 = 7

-- the member of a lock, among so many users; the members of users have their numbers
abbrev pub member_of : ℕ → LockId → ℕ
member_of n k = n + place_of_level k.level + k.part

-- so many members there are
abbrev pub members_for : ℕ → ℕ
members_for n = n + 7 + n

-- an entry names its user and no other one, and each lock under which it has a call
pub record IsNamed (n : ℕ) (x : Entry × ℕ) : Type 0 where
  pub user : (u : ℕ) → u < n → (bit_at x.1 u ≡ 1) ↔ (x.0.user ≡ u)
  pub locks : (k : LockId) → IsTrue (is_lock n k) → (bit_at x.1 (member_of n k) ≡ 1) ⊎ (only n k x.0.steps ≡ [])

-- so do all of these
abbrev pub AllNamed : ℕ → List (Entry × ℕ) → Type 0
AllNamed n [] = Unit {0}
AllNamed n (x ∷ log) = IsNamed n x × AllNamed n log

-- each lock has a member of its own, behind the users
pub record AreMembers (n : ℕ) : Type 0 where
  pub behind : (k : LockId) → n ≤ member_of n k
  pub within : (k : LockId) → IsTrue (is_lock n k) → member_of n k < members_for n
  pub apart : (a b : LockId) → IsTrue (is_lock n a) → IsTrue (is_lock n b) → member_of n a ≡ member_of n b → a ≡ b

-- so it is for any number of users
abbrev pub LocksAreMembers : Type 0
LocksAreMembers = (n : ℕ) → AreMembers n
