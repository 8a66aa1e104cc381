-- The locks among so many users stand in the order of their levels, each at its place. States docs/levels.md, "Locks".
use Rattle.std.proofs.Common.{◌≡◌, ℕ, zero, suc, ◌+◌, ◌<◌, ◌≤◌, true, false, nat_eq, IsTrue, List, [], ◌∷◌, ◌++◌, length, map, slice_get, Some, refl, sym, ap, ◌∙◌, arith, length-append}
use Rattle.std.specs.List.{AllByRecursion, range_with_len}
use Rattle.std.proofs.lemmas.Bool.{ltb-true, eqb-true, ne_eqb}
use Rattle.std.proofs.lemmas.Option.{slice_get-get_or}
use Rattle.std.proofs.lemmas.List.FromFn.{length-map-range_with_len, get_or-map-range_with_len}
use Rattle.psos_calls.specs.declared.level.Level.{Level}
use Rattle.psos_calls.specs.declared.level.Level.TheVariants.{L13, L12, L11, L10, L9, L8, L7, L0}
use Rattle.psos_calls.specs.declared.lock_id.LockId.{LockId}
use Rattle.psos_calls.specs.Locks.Held.{rank, same_lock, is_lock}
use Rattle.psos_calls.proofs.PhasePlaces.{get-append_left, get-append_right}
use Rattle.psos_sysproc.specs.Owners.{whole, mailbox, all_locks, place_at, place}

-- the second is of no later level, and is not the first
abbrev pub Before : LockId → LockId → Type 0
Before k j = (rank k.level ≤ rank j.level) × (same_lock k j ≡ false)

abbrev pub AreOrdered : List LockId → Type 0
AreOrdered [] = Unit {0}
AreOrdered (k ∷ locks) = AllByRecursion (Before k) locks × AreOrdered locks

boxes-all : (P : LockId → Type 0) (a n : ℕ) → ((i : ℕ) → a ≤ i → P (mailbox i)) → P (whole L13) → AllByRecursion P (map mailbox (range_with_len a n) ++ whole L13 ∷ [])
boxes-all P a zero each last = (last, tt)
boxes-all P a (suc n) each last = (each a (omega arith), boxes-all P (a + 1) n (λ i above. each i (omega arith)) last)

boxes-ordered : (a n : ℕ) → AreOrdered (map mailbox (range_with_len a n) ++ whole L13 ∷ [])
boxes-ordered a zero = (tt, tt)
boxes-ordered a (suc n) =
    (boxes-all (Before (mailbox a)) (a + 1) n (λ i above. (omega arith, ne_eqb a i (λ same. omega arith))) (omega arith, refl), boxes-ordered (a + 1) n)

-- a whole level before 12 stands before the mailboxes and level 13
boxes-after : (level : Level) (users : ℕ) → rank level < 12 → AllByRecursion (Before (whole level)) (map mailbox (range_with_len 0 users) ++ whole L13 ∷ [])
boxes-after level users low =
    boxes-all (Before (whole level)) 0 users (λ i above. (omega arith, rw (ne_eqb (rank level) 12 (λ same. omega arith)) refl)) (omega arith, rw (ne_eqb (rank level) 13 (λ same. omega arith)) refl)

pub all-ordered : (users : ℕ) → AreOrdered (all_locks users)
all-ordered users = (
  ((omega arith, refl), ((omega arith, refl), ((omega arith, refl), ((omega arith, refl), ((omega arith, refl), boxes-after L0 users (omega arith)))))),
  (
    ((omega arith, refl), ((omega arith, refl), ((omega arith, refl), ((omega arith, refl), boxes-after L7 users (omega arith))))),
    (
      ((omega arith, refl), ((omega arith, refl), ((omega arith, refl), boxes-after L8 users (omega arith)))),
      (
        ((omega arith, refl), ((omega arith, refl), boxes-after L9 users (omega arith))),
        (
          ((omega arith, refl), boxes-after L10 users (omega arith)),
          (boxes-after L11 users (omega arith), boxes-ordered 0 users),
        ),
      ),
    ),
  ),
)

pub all-length : (users : ℕ) → length (all_locks users) ≡ 7 + users
all-length users = omega (arith, length-append (map mailbox (range_with_len 0 users)) (whole L13 ∷ []), length-map-range_with_len mailbox 0 users)

-- ---- each at its place

is-whole : (level : Level) (part : ℕ) → nat_eq part 0 ≡ true → Some (whole level) ≡ Some (record { level = level; part = part })
is-whole level part e = ap (λ (p : ℕ). Some (record { level = level; part = p })) (sym (eqb-true part 0 e))

box-at : (users part : ℕ) → part < users → slice_get (map mailbox (range_with_len 0 users) ++ whole L13 ∷ []) part ≡ Some (mailbox part)
box-at users part below =
    let long = length-map-range_with_len mailbox 0 users in
    get-append_left (map mailbox (range_with_len 0 users)) (whole L13 ∷ []) part (omega arith)
    ∙ (slice_get-get_or (map mailbox (range_with_len 0 users)) part (whole L13) (omega arith)
    ∙ ap (λ (k : LockId). Some k) (get_or-map-range_with_len mailbox 0 users part part (whole L13) below (omega arith)))

last-at : (users : ℕ) → slice_get (map mailbox (range_with_len 0 users) ++ whole L13 ∷ []) users ≡ Some (whole L13)
last-at users =
    let long = length-map-range_with_len mailbox 0 users in
    get-append_right (map mailbox (range_with_len 0 users)) (whole L13 ∷ []) users 0 (omega arith)

-- what comes after the first six
after-six : (users i : ℕ) → slice_get (all_locks users) (6 + i) ≡ slice_get (map mailbox (range_with_len 0 users) ++ whole L13 ∷ []) i
after-six users i = get-append_right (whole L0 ∷ whole L7 ∷ whole L8 ∷ whole L9 ∷ whole L10 ∷ whole L11 ∷ []) (map mailbox (range_with_len 0 users) ++ whole L13 ∷ []) (6 + i) i refl

at-level : (users : ℕ) (level : Level) (part : ℕ) → is_lock users (record { level = level; part = part }) ≡ true → slice_get (all_locks users) (place_at level users part) ≡ Some (record { level = level; part = part })
at-level users L13 part is = after-six users users ∙ (last-at users ∙ is-whole L13 part is)
at-level users L12 part is = after-six users part ∙ box-at users part (ltb-true part users is)
at-level users L11 part is = is-whole L11 part is
at-level users L10 part is = is-whole L10 part is
at-level users L9 part is = is-whole L9 part is
at-level users L8 part is = is-whole L8 part is
at-level users L7 part is = is-whole L7 part is
at-level users L0 part is = is-whole L0 part is

pub all-place : (users : ℕ) (lock : LockId) → IsTrue (is_lock users lock) → slice_get (all_locks users) (place users lock) ≡ Some lock
all-place users lock is = at-level users lock.level lock.part is
