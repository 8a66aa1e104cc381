-- What a user holds of locks in their order, by who holds each. States docs/levels.md, "Locks".
use Rattle.std.proofs.Common.{◌≡◌, ℕ, zero, suc, ◌<◌, ◌≤◌, Bool, true, false, ◌||◌, ◌&&◌, nat_lt, nat_eq, cond, IsTrue, List, [], ◌∷◌, length, replicate, slice_get, slice_index_or, slice_set, Option, Some, None, refl, sym, ap, ◌∙◌, subst, arith}
use Rattle.std.specs.List.{AllByRecursion}
use Rattle.std.proofs.lemmas.Bool.{and_parts, ltb-true, lt-ltb, eqb-true, eqb-false, eq-eqb, ne_eqb}
use Rattle.std.proofs.lemmas.Option.{none-some}
use Rattle.psos_calls.specs.declared.level.Level.{Level}
use Rattle.psos_calls.specs.declared.level.Level.TheVariants.{L13, L12, L11, L10, L9, L8, L7, L0}
use Rattle.psos_calls.specs.declared.lock_id.LockId.{LockId}
use Rattle.psos_calls.specs.Locks.Held.{rank, same_lock, is_held, are_earlier}
use Rattle.psos_sysproc.specs.Owners.{is_owner, owned, first_rank, without_user}
use Rattle.psos_sysproc.proofs.AllLocks.{Before, AreOrdered}

some-same : {X : Type 0} (x y : X) → Some x ≡ Some y → x ≡ y
some-same x y e = cc

all-at : {X : Type 0} (P : X → Type 0) (xs : List X) (i : ℕ) (x : X) → AllByRecursion P xs → slice_get xs i ≡ Some x → P x
all-at P [] i x all e = absurd (none-some x e)
all-at P (y ∷ xs) zero x all e = subst P (some-same y x e) all.0
all-at P (y ∷ xs) (suc i) x all e = all-at P xs i x all.1 e

-- ---- what a user owns of locks in their order

owned-all : (P : LockId → Type 0) (u : ℕ) (locks : List LockId) (owners : List (Option ℕ)) → AllByRecursion P locks → AllByRecursion P (owned u locks owners)
owned-all P u [] owners all = tt
owned-all P u (k ∷ locks) [] all = tt
owned-all P u (k ∷ locks) (o ∷ owners) all = by (is_owner u o) (owned-all P u locks owners all.1)
  where
    by : (b : Bool) → AllByRecursion P (owned u locks owners) → AllByRecursion P (cond b (k ∷ owned u locks owners) (owned u locks owners))
    by true rest = (all.0, rest)
    by false rest = rest

pub owned-ordered : (u : ℕ) (locks : List LockId) (owners : List (Option ℕ)) → AreOrdered locks → AreOrdered (owned u locks owners)
owned-ordered u [] owners ordered = tt
owned-ordered u (k ∷ locks) [] ordered = tt
owned-ordered u (k ∷ locks) (o ∷ owners) ordered = by (is_owner u o) (owned-ordered u locks owners ordered.1)
  where
    by : (b : Bool) → AreOrdered (owned u locks owners) → AreOrdered (cond b (k ∷ owned u locks owners) (owned u locks owners))
    by true rest = (owned-all (Before k) u locks owners ordered.0, rest)
    by false rest = rest

-- ---- whether a lock is held

none-held : (k : LockId) (locks : List LockId) → AllByRecursion (λ (j : LockId). same_lock j k ≡ false) locks → is_held locks k ≡ false
none-held k [] all = refl
none-held k (j ∷ locks) all = ap (λ (b : Bool). b || is_held locks k) all.0 ∙ none-held k locks all.1

eq-same : (a b : ℕ) → nat_eq a b ≡ nat_eq b a
eq-same a b = by (nat_eq a b) refl
  where
    by : (t : Bool) → nat_eq a b ≡ t → t ≡ nat_eq b a
    by true e = sym (eq-eqb b a (sym (eqb-true a b e)))
    by false e = sym (ne_eqb b a (λ same. eqb-false a b e (sym same)))

same-same : (k j : LockId) → same_lock k j ≡ same_lock j k
same-same k j = rw (eq-same (rank k.level) (rank j.level), eq-same k.part j.part) refl

same-self : (k : LockId) → same_lock k k ≡ true
same-self k = rw (eq-eqb (rank k.level) (rank k.level) refl, eq-eqb k.part k.part refl) refl

apart-back : (k : LockId) (locks : List LockId) → AllByRecursion (Before k) locks → AllByRecursion (λ (j : LockId). same_lock j k ≡ false) locks
apart-back k [] all = tt
apart-back k (j ∷ locks) all = (same-same j k ∙ all.0.1, apart-back k locks all.1)

-- a user holds a lock exactly where it is its owner
pub held-at : (u : ℕ) (locks : List LockId) (owners : List (Option ℕ)) (i : ℕ) (lock : LockId) → AreOrdered locks → slice_get locks i ≡ Some lock → length owners ≡ length locks
    → is_owner u (slice_index_or owners i None) ≡ is_held (owned u locks owners) lock
held-at u [] owners i lock ordered e len = absurd (none-some lock e)
held-at u (k ∷ locks) [] i lock ordered e len = absurd (omega arith)
held-at u (k ∷ locks) (o ∷ owners) zero lock ordered e len = by (is_owner u o)
  where
    same : k ≡ lock
    same = some-same k lock e

    first : same_lock k lock ≡ true
    first = ap (λ (j : LockId). same_lock k j) (sym same) ∙ same-self k

    none : is_held (owned u locks owners) lock ≡ false
    none = ap (λ (j : LockId). is_held (owned u locks owners) j) (sym same) ∙ none-held k (owned u locks owners) (owned-all (λ (j : LockId). same_lock j k ≡ false) u locks owners (apart-back k locks ordered.0))

    by : (b : Bool) → b ≡ is_held (cond b (k ∷ owned u locks owners) (owned u locks owners)) lock
    by true = sym (ap (λ (b : Bool). b || is_held (owned u locks owners) lock) first)
    by false = sym none
held-at u (k ∷ locks) (o ∷ owners) (suc i) lock ordered e len =
    by (is_owner u o) (held-at u locks owners i lock ordered.1 e (omega arith))
  where
    other : same_lock k lock ≡ false
    other = (all-at (Before k) locks i lock ordered.0 e).1

    by : (b : Bool) → is_owner u (slice_index_or owners i None) ≡ is_held (owned u locks owners) lock
        → is_owner u (slice_index_or owners i None) ≡ is_held (cond b (k ∷ owned u locks owners) (owned u locks owners)) lock
    by true rest = rest ∙ sym (ap (λ (b : Bool). b || is_held (owned u locks owners) lock) other)
    by false rest = rest

-- ---- whether all that it owns come earlier

rank-is-low : (level : Level) → nat_lt (rank level) 14 ≡ true
rank-is-low L13 = refl
rank-is-low L12 = refl
rank-is-low L11 = refl
rank-is-low L10 = refl
rank-is-low L9 = refl
rank-is-low L8 = refl
rank-is-low L7 = refl
rank-is-low L0 = refl

rest-earlier : (k lock : LockId) (locks : List LockId) → rank lock.level < rank k.level → AllByRecursion (Before k) locks → are_earlier locks lock ≡ true
rest-earlier k lock [] less all = refl
rest-earlier k lock (j ∷ locks) less all =
    let of : rank k.level ≤ rank j.level = all.0.0 in
    rw (lt-ltb (rank lock.level) (rank j.level) (omega arith)) (rest-earlier k lock locks less all.1)

-- it is enough to look at the first
pub earlier-first : (lock : LockId) (locks : List LockId) → AreOrdered locks → are_earlier locks lock ≡ nat_lt (rank lock.level) (first_rank locks)
earlier-first lock [] ordered = sym (rank-is-low lock.level)
earlier-first lock (k ∷ locks) ordered = by (nat_lt (rank lock.level) (rank k.level)) refl
  where
    by : (b : Bool) → nat_lt (rank lock.level) (rank k.level) ≡ b → (b && are_earlier locks lock) ≡ b
    by true e = rest-earlier k lock locks (ltb-true (rank lock.level) (rank k.level) e) ordered.0
    by false e = refl

-- ---- a user takes a lock that nobody holds, of an earlier rank than all that it owns: it stands first then

pub take-owned : (u : ℕ) (locks : List LockId) (owners : List (Option ℕ)) (i : ℕ) (lock : LockId) → AreOrdered locks → slice_get locks i ≡ Some lock → length owners ≡ length locks
    → slice_index_or owners i None ≡ None → IsTrue (are_earlier (owned u locks owners) lock) → owned u locks (slice_set owners i (Some u)) ≡ lock ∷ owned u locks owners
take-owned u [] owners i lock ordered e len free earlier = absurd (none-some lock e)
take-owned u (k ∷ locks) [] i lock ordered e len free earlier = absurd (omega arith)
take-owned u (k ∷ locks) (o ∷ owners) zero lock ordered e len free earlier =
    let mine : nat_eq u u ≡ true = eq-eqb u u refl in
    let first : cond (nat_eq u u) (k ∷ owned u locks owners) (owned u locks owners) ≡ k ∷ owned u locks owners = ap (λ (b : Bool). cond b (k ∷ owned u locks owners) (owned u locks owners)) mine in
    let same : k ∷ owned u locks owners ≡ lock ∷ owned u locks owners = ap (λ (j : LockId). j ∷ owned u locks owners) (some-same k lock e) in
    let none : lock ∷ owned u locks owners ≡ lock ∷ cond (is_owner u o) (k ∷ owned u locks owners) (owned u locks owners) = ap (λ (b : Bool). lock ∷ cond b (k ∷ owned u locks owners) (owned u locks owners)) (sym (ap (is_owner u) free)) in
    first ∙ (same ∙ none)
take-owned u (k ∷ locks) (o ∷ owners) (suc i) lock ordered e len free earlier =
    by (is_owner u o) earlier (take-owned u locks owners i lock ordered.1 e (omega arith) free)
  where
    no-less : nat_lt (rank lock.level) (rank k.level) ≡ true → ⊥
    no-less less =
        let below = ltb-true (rank lock.level) (rank k.level) less in
        let above : rank k.level ≤ rank lock.level = (all-at (Before k) locks i lock ordered.0 e).0 in
        omega arith

    by : (b : Bool) → IsTrue (are_earlier (cond b (k ∷ owned u locks owners) (owned u locks owners)) lock)
        → (IsTrue (are_earlier (owned u locks owners) lock) → owned u locks (slice_set owners i (Some u)) ≡ lock ∷ owned u locks owners)
        → cond b (k ∷ owned u locks (slice_set owners i (Some u))) (owned u locks (slice_set owners i (Some u))) ≡ lock ∷ cond b (k ∷ owned u locks owners) (owned u locks owners)
    by true less rest = absurd (no-less (and_parts (nat_lt (rank lock.level) (rank k.level)) (are_earlier (owned u locks owners) lock) less).0)
    by false less rest = rest less

-- the lists of the others stay
pub take-others : (u v : ℕ) (locks : List LockId) (owners : List (Option ℕ)) (i : ℕ) → (u ≡ v → ⊥)
    → slice_index_or owners i None ≡ None → owned v locks (slice_set owners i (Some u)) ≡ owned v locks owners
take-others u v [] owners i other free = refl
take-others u v (k ∷ locks) [] i other free = refl
take-others u v (k ∷ locks) (o ∷ owners) zero other free =
    let not-now : nat_eq u v ≡ is_owner v o = ne_eqb u v other ∙ sym (ap (is_owner v) free) in
    ap (λ (b : Bool). cond b (k ∷ owned v locks owners) (owned v locks owners)) not-now
take-others u v (k ∷ locks) (o ∷ owners) (suc i) other free =
    ap (λ (rest : List LockId). cond (is_owner v o) (k ∷ rest) rest) (take-others u v locks owners i other free)

-- ---- a user gives back all that it owns

left-owner : (u : ℕ) (o : Option ℕ) → is_owner u (cond (is_owner u o) None o) ≡ false
left-owner u o = by (is_owner u o) refl
  where
    by : (b : Bool) → is_owner u o ≡ b → is_owner u (cond b None o) ≡ false
    by true e = refl
    by false e = e

left-other : (u v : ℕ) (o : Option ℕ) → (u ≡ v → ⊥) → is_owner v (cond (is_owner u o) None o) ≡ is_owner v o
left-other u v None other = refl
left-other u v (Some w) other = by (nat_eq w u) refl
  where
    by : (b : Bool) → nat_eq w u ≡ b → is_owner v (cond b None (Some w)) ≡ nat_eq w v
    by true e = sym (ne_eqb w v (λ same. other (sym (eqb-true w u e) ∙ same)))
    by false e = refl

pub release-owned : (u : ℕ) (locks : List LockId) (owners : List (Option ℕ)) → owned u locks (without_user u owners) ≡ []
release-owned u [] owners = refl
release-owned u (k ∷ locks) [] = refl
release-owned u (k ∷ locks) (o ∷ owners) =
    ap (λ (b : Bool). cond b (k ∷ owned u locks (without_user u owners)) (owned u locks (without_user u owners))) (left-owner u o) ∙ release-owned u locks owners

pub release-others : (u v : ℕ) (locks : List LockId) (owners : List (Option ℕ)) → (u ≡ v → ⊥) → owned v locks (without_user u owners) ≡ owned v locks owners
release-others u v [] owners other = refl
release-others u v (k ∷ locks) [] other = refl
release-others u v (k ∷ locks) (o ∷ owners) other =
    ap (λ (b : Bool). cond b (k ∷ owned v locks (without_user u owners)) (owned v locks (without_user u owners))) (left-other u v o other)
    ∙ ap (λ (rest : List LockId). cond (is_owner v o) (k ∷ rest) rest) (release-others u v locks owners other)

-- ---- nobody owns any

pub none-owned : (u : ℕ) (locks : List LockId) (n : ℕ) → owned u locks (replicate n None) ≡ []
none-owned u [] n = refl
none-owned u (k ∷ locks) zero = refl
none-owned u (k ∷ locks) (suc n) = none-owned u locks n
