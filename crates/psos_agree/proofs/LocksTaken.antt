-- Locks that are taken one after another, each where it fits. States docs/levels.md, "Locks".
use Rattle.std.proofs.Common.{◌≡◌, ◌&&◌, ◌||◌, Bool, true, false, cond, eqb, List, [], ◌∷◌, refl, ap}
use Rattle.std.proofs.lemmas.Bool.{and_from, eq-eqb, or_left}
use Rattle.psos_calls.specs.declared.level.Level.{Level}
use Rattle.psos_calls.specs.declared.level.Level.TheVariants.{L11, L10, L9, L8, L7, L0}
use Rattle.psos_calls.specs.declared.lock_id.LockId.{LockId}
use Rattle.psos_calls.specs.Locks.Held.{rank, same_lock, is_held, are_earlier}

-- the lock is held, or may be taken after those that are
abbrev pub fits : List LockId → LockId → Bool
fits locks k = is_held locks k || are_earlier locks k

-- it is held from then on
abbrev pub with_lock : List LockId → LockId → List LockId
with_lock locks k = cond (is_held locks k) locks (k ∷ locks)

abbrev pub taking : List LockId → List LockId → List LockId
taking locks [] = locks
taking locks (k ∷ ks) = taking (with_lock locks k) ks

abbrev pub can_take : List LockId → List LockId → Bool
can_take locks [] = true
can_take locks (k ∷ ks) = fits locks k && can_take (with_lock locks k) ks

pub same_lock_refl : (a : LockId) → same_lock a a ≡ true
same_lock_refl a = and_from (eqb (rank a.level) (rank a.level)) (eqb a.part a.part) (eq-eqb (rank a.level) (rank a.level) refl) (eq-eqb a.part a.part refl)

pub held_with : (locks : List LockId) (k : LockId) → is_held (with_lock locks k) k ≡ true
held_with locks k = by_test (is_held locks k) refl
  where
    by_test : (b : Bool) → is_held locks k ≡ b → is_held (cond b locks (k ∷ locks)) k ≡ true
    by_test true e = e
    by_test false e = or_left (same_lock k k) (is_held locks k) (same_lock_refl k)

pub with_held : (locks : List LockId) (k : LockId) → is_held locks k ≡ true → with_lock locks k ≡ locks
with_held locks k e = ap (λ (b : Bool). cond b locks (k ∷ locks)) e

-- ---- the locks of plans

-- the lock of a level other than 12
abbrev pub lock_at : Level → LockId
lock_at level = record { level = level; part = 0 }

-- the locks that are taken where a directory is read, or opened, or a user object is made in it
abbrev pub page_locks : List LockId
page_locks = lock_at L8 ∷ lock_at L7 ∷ []

abbrev pub read_locks : List LockId
read_locks = lock_at L9 ∷ page_locks

abbrev pub open_locks : List LockId
open_locks = lock_at L10 ∷ read_locks

abbrev pub make_locks : List LockId
make_locks = lock_at L11 ∷ open_locks

-- the locks that are held where a user object is made: some before them, and those of its directory and the identifiers
abbrev pub making : List LockId → List LockId
making locks = lock_at L0 ∷ lock_at L7 ∷ lock_at L8 ∷ lock_at L9 ∷ lock_at L10 ∷ lock_at L11 ∷ locks
