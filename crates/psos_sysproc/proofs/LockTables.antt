-- What a table keeps of who holds each lock says what each user holds, and still does after a take and a release.
-- States docs/levels.md, "Locks".
use Rattle.std.proofs.Common.{◌≡◌, ℕ, zero, suc, ◌+◌, ◌<◌, Bool, true, false, not, nat_eq, cond, IsTrue, List, [], ◌∷◌, length, replicate, get_or, slice_index_or, slice_set, Option, Some, None, refl, sym, ap, ◌∙◌, subst, arith}
use Rattle.std.specs.Prelude.{is_none, nat_lt}
use Rattle.std.specs.List.{AllByRecursion}
use Rattle.std.proofs.lemmas.Bool.{and_parts, false≢true, eqb-true, eqb-false, eq-eqb}
use Rattle.std.proofs.lemmas.List.{length-map, length-set, length-replicate, get_or-set_other, get_or-replicate, get_or_default}
use Rattle.std.proofs.lemmas.Grind.{get_or-set_at}
use Rattle.std.proofs.lemmas.List.Sums.{list_all-from_AllPass}
use Rattle.std.proofs.lemmas.List.Folds.{list_all_at}
use Rattle.std.proofs.lemmas.List.FromFn.{length-map-range_with_len, get_or-map-range_with_len, fill_by_all}
use Rattle.psos_calls.specs.declared.lock_id.LockId.{LockId}
use Rattle.psos_calls.specs.Locks.Held.{rank, is_lock, is_held, is_free, are_earlier, may_take}
use Rattle.psos_sysproc.specs.Owners.{all_locks, place, is_owner, holding, holdings, first_rank, IsUser, IsTable, without_user}
use Rattle.psos_sysproc.specs.Wants.{locks_of, taken, released}
use Rattle.psos_sysproc.proofs.AllLocks.{all-ordered, all-length, all-place}
use Rattle.psos_sysproc.proofs.LockOwners.{owned-ordered, held-at, earlier-first, take-owned, take-others, release-owned, release-others, none-owned}

-- ---- lists of which one element changes

module _ {X : Type 0} where
  changed-at : (xs : List X) (f g : ℕ → X) (u : ℕ) (y d : X) → u < length xs → ((v : ℕ) → v < length xs → get_or xs v d ≡ f v)
      → g u ≡ y → ((v : ℕ) → (u ≡ v → ⊥) → g v ≡ f v) → (v : ℕ) → v < length xs → get_or (slice_set xs u y) v d ≡ g v
  changed-at xs f g u y d at is here others v below = by (nat_eq u v) refl
    where
      by : (b : Bool) → nat_eq u v ≡ b → get_or (slice_set xs u y) v d ≡ g v
      by true e =
          let same : u ≡ v = eqb-true u v e in
          get_or-set_at xs u v y d (sym same) at ∙ (sym here ∙ ap g same)
      by false e =
          get_or-set_other xs u v y d (λ same. eqb-false u v e (sym same)) ∙ (is v below ∙ sym (others v (eqb-false u v e)))

  all-or : (P : X → Type 0) (xs : List X) (i : ℕ) (d : X) → AllByRecursion P xs → P d → P (get_or xs i d)
  all-or P [] i d all last = last
  all-or P (x ∷ xs) zero d all last = all.0
  all-or P (x ∷ xs) (suc i) d all last = all-or P xs i d all.1 last

  all-set : (P : X → Type 0) (xs : List X) (i : ℕ) (y : X) → AllByRecursion P xs → P y → AllByRecursion P (slice_set xs i y)
  all-set P [] i y all new = tt
  all-set P (x ∷ xs) zero y all new = (new, all.1)
  all-set P (x ∷ xs) (suc i) y all new = (all.0, all-set P xs i y all.1 new)

-- ---- what each user holds

pub user-holds : (users : ℕ) (owners : List (Option ℕ)) (u : ℕ) (d : List LockId) → u < users → get_or (holdings users owners) u d ≡ holding users owners u
unfolding holdings
user-holds users owners u d below = get_or-map-range_with_len (holding users owners) 0 users u u d below (omega arith)

pub holdings-length : (users : ℕ) (owners : List (Option ℕ)) → length (holdings users owners) ≡ users
unfolding holdings
holdings-length users owners = length-map-range_with_len (holding users owners) 0 users

-- a user's list of locks changes, and no other's
holdings-change : (users : ℕ) (before now : List (Option ℕ)) (u : ℕ) (locks : List LockId) → u < users → holding users now u ≡ locks
    → ((v : ℕ) → (u ≡ v → ⊥) → holding users now v ≡ holding users before v) → holdings users now ≡ slice_set (holdings users before) u locks
unfolding holdings
holdings-change users before now u locks below here others =
    let long = holdings-length users before in
    let set-long = length-set (holdings users before) u locks in
    sym (fill_by_all (holding users now) (slice_set (holdings users before) u locks) users [] (set-long ∙ long)
    (λ v lt. changed-at (holdings users before) (holding users before) (holding users now) u locks [] (omega arith)
    (λ w at. user-holds users before w [] (omega arith)) here others v (omega arith)))

-- what a table keeps, by the number of its users
pub is-table : (users : ℕ) (owners : List (Option ℕ)) (lowest : List ℕ) → length lowest ≡ users → length owners ≡ 7 + users → AllByRecursion (IsUser users) owners
    → ((u : ℕ) → u < users → slice_index_or lowest u 14 ≡ first_rank (holding users owners u)) → IsTable owners lowest
is-table users owners lowest long all each ranks =
    subst (λ (n : ℕ). length owners ≡ 7 + n → AllByRecursion (IsUser n) owners → ((u : ℕ) → u < n → slice_index_or lowest u 14 ≡ first_rank (holding n owners u)) → IsTable owners lowest)
    long (λ a e r. record { all = a; users = e; ranks = r }) all each ranks

module _ (owners : List (Option ℕ)) (lowest : List ℕ) (table : IsTable owners lowest) (held : List (List LockId)) (view : holdings (length lowest) owners ≡ held) where
  pub users-are : length held ≡ length lowest
  users-are = sym (ap length view) ∙ holdings-length (length lowest) owners

  held-by : (u : ℕ) → u < length lowest → slice_index_or held u [] ≡ holding (length lowest) owners u
  held-by u below = ap (λ (h : List (List LockId)). slice_index_or h u []) (sym view) ∙ user-holds (length lowest) owners u [] below

  -- ---- the owner of a lock

  owner-holds : (lock : LockId) → IsTrue (is_lock (length lowest) lock) → (u : ℕ)
      → is_owner u (slice_index_or owners (place (length lowest) lock) None) ≡ is_held (holding (length lowest) owners u) lock
  owner-holds lock is u =
      let long = all-length (length lowest) in
      held-at u (all_locks (length lowest)) owners (place (length lowest) lock) lock (all-ordered (length lowest)) (all-place (length lowest) lock is) (table.all ∙ sym long)

  pub owner-is : (lock : LockId) → IsTrue (is_lock (length lowest) lock) → (u : ℕ) → u < length lowest
      → is_owner u (slice_index_or owners (place (length lowest) lock) None) ≡ is_held (slice_index_or held u []) lock
  owner-is lock is u below = owner-holds lock is u ∙ ap (λ (locks : List LockId). is_held locks lock) (sym (held-by u below))

  pub none-is : (lock : LockId) → IsTrue (is_lock (length lowest) lock) → is_none (slice_index_or owners (place (length lowest) lock) None) ≡ is_free held lock
  none-is lock is =
      by (slice_index_or owners (place (length lowest) lock) None) (all-or (IsUser (length lowest)) owners (place (length lowest) lock) None table.users tt) (owner-is lock is)
    where
      by : (o : Option ℕ) → IsUser (length lowest) o → ((u : ℕ) → u < length lowest → is_owner u o ≡ is_held (slice_index_or held u []) lock) → is_none o ≡ is_free held lock
      by None user holds =
          sym (list_all-from_AllPass (λ (locks : List LockId). not (is_held locks lock)) held
          (λ v d lt.
          let below : v < length lowest = omega (arith, users-are) in
          ap (λ (locks : List LockId). not (is_held locks lock)) (get_or_default held v d [] lt) ∙ ap not (sym (holds v below))))
      by (Some v) user holds =
          let below : v < length lowest = user in
          let mine = eq-eqb v v refl in
          sym (list_all_at (λ (locks : List LockId). not (is_held locks lock)) held v [] (omega (arith, users-are)) (ap not (sym (holds v below) ∙ mine)))

  -- the first rank is enough to see what comes earlier
  pub lowest-is : (lock : LockId) (u : ℕ) → u < length lowest → nat_lt (rank lock.level) (slice_index_or lowest u 14) ≡ are_earlier (locks_of held u) lock
  lowest-is lock u below =
      ap (nat_lt (rank lock.level)) (table.ranks u below)
      ∙ (sym (earlier-first lock (holding (length lowest) owners u) (owned-ordered u (all_locks (length lowest)) owners (all-ordered (length lowest))))
      ∙ ap (λ (locks : List LockId). are_earlier locks lock) (sym (held-by u below)))

  -- ---- a user takes a lock

  module _ (u : ℕ) (lock : LockId) (below : u < length lowest) (is : IsTrue (is_lock (length lowest) lock)) (may : IsTrue (may_take held (locks_of held u) lock)) where
    was-free : slice_index_or owners (place (length lowest) lock) None ≡ None
    was-free =
        by (slice_index_or owners (place (length lowest) lock) None) (none-is lock is ∙ (and_parts (is_free held lock) (are_earlier (locks_of held u) lock) may).0)
      where
        by : (o : Option ℕ) → is_none o ≡ true → o ≡ None
        by None e = refl
        by (Some v) e = absurd (false≢true e)

    taken-here : holding (length lowest) (slice_set owners (place (length lowest) lock) (Some u)) u ≡ lock ∷ holding (length lowest) owners u
    taken-here =
        let long = all-length (length lowest) in
        take-owned u (all_locks (length lowest)) owners (place (length lowest) lock) lock (all-ordered (length lowest)) (all-place (length lowest) lock is) (table.all ∙ sym long) was-free
        (ap (λ (locks : List LockId). are_earlier locks lock) (sym (held-by u below)) ∙ (and_parts (is_free held lock) (are_earlier (locks_of held u) lock) may).1)

    taken-others : (v : ℕ) → (u ≡ v → ⊥) → holding (length lowest) (slice_set owners (place (length lowest) lock) (Some u)) v ≡ holding (length lowest) owners v
    taken-others v other = take-others u v (all_locks (length lowest)) owners (place (length lowest) lock) other was-free

    pub take-holdings : holdings (length (slice_set lowest u (rank lock.level))) (slice_set owners (place (length lowest) lock) (Some u)) ≡ taken held u lock
    take-holdings =
        ap (λ (n : ℕ). holdings n (slice_set owners (place (length lowest) lock) (Some u))) (length-set lowest u (rank lock.level))
        ∙ (holdings-change (length lowest) owners (slice_set owners (place (length lowest) lock) (Some u)) u (lock ∷ holding (length lowest) owners u) below taken-here taken-others
        ∙ (ap (λ (h : List (List LockId)). slice_set h u (lock ∷ holding (length lowest) owners u)) view
        ∙ ap (λ (locks : List LockId). slice_set held u (lock ∷ locks)) (sym (held-by u below))))

    pub take-table : IsTable (slice_set owners (place (length lowest) lock) (Some u)) (slice_set lowest u (rank lock.level))
    take-table =
        is-table (length lowest) (slice_set owners (place (length lowest) lock) (Some u)) (slice_set lowest u (rank lock.level))
        (length-set lowest u (rank lock.level)) (length-set owners (place (length lowest) lock) (Some u) ∙ table.all)
        (all-set (IsUser (length lowest)) owners (place (length lowest) lock) (Some u) table.users below)
        (changed-at lowest (λ v. first_rank (holding (length lowest) owners v)) (λ v. first_rank (holding (length lowest) (slice_set owners (place (length lowest) lock) (Some u)) v))
        u (rank lock.level) 14 below table.ranks (ap first_rank taken-here) (λ v other. ap first_rank (taken-others v other)))

  -- ---- a user gives back all that it holds

  module _ (u : ℕ) (below : u < length lowest) where
    freed-here : holding (length lowest) (without_user u owners) u ≡ []
    freed-here = release-owned u (all_locks (length lowest)) owners

    freed-others : (v : ℕ) → (u ≡ v → ⊥) → holding (length lowest) (without_user u owners) v ≡ holding (length lowest) owners v
    freed-others v other = release-others u v (all_locks (length lowest)) owners other

    pub release-holdings : holdings (length (slice_set lowest u 14)) (without_user u owners) ≡ released held u
    release-holdings =
        ap (λ (n : ℕ). holdings n (without_user u owners)) (length-set lowest u 14)
        ∙ (holdings-change (length lowest) owners (without_user u owners) u [] below freed-here freed-others ∙ ap (λ (h : List (List LockId)). slice_set h u []) view)

    users-left : (users : ℕ) (left : List (Option ℕ)) → AllByRecursion (IsUser users) left → AllByRecursion (IsUser users) (without_user u left)
    users-left users [] all = tt
    users-left users (o ∷ left) all = (by (is_owner u o), users-left users left all.1)
      where
        by : (b : Bool) → IsUser users (cond b None o)
        by true = tt
        by false = all.0

    pub release-table : IsTable (without_user u owners) (slice_set lowest u 14)
    release-table =
        is-table (length lowest) (without_user u owners) (slice_set lowest u 14)
        (length-set lowest u 14) (length-map owners (λ (o : Option ℕ). cond (is_owner u o) None o) ∙ table.all)
        (users-left (length lowest) owners table.users)
        (changed-at lowest (λ v. first_rank (holding (length lowest) owners v)) (λ v. first_rank (holding (length lowest) (without_user u owners) v))
        u 14 14 below table.ranks (ap first_rank freed-here) (λ v other. ap first_rank (freed-others v other)))

-- ---- nobody holds any

pub none-hold : (users : ℕ) → holdings users (replicate (7 + users) None) ≡ replicate users []
unfolding holdings
none-hold users =
    sym (fill_by_all (holding users (replicate (7 + users) None)) (replicate users []) users [] (length-replicate users [])
    (λ v below. get_or-replicate users v [] [] below ∙ sym (none-owned v (all_locks users) (7 + users))))

none-users : (users n : ℕ) → AllByRecursion (IsUser users) (replicate n None)
none-users users zero = tt
none-users users (suc n) = (tt, none-users users n)

pub new-table : (users : ℕ) → IsTable (replicate (7 + users) None) (replicate users 14)
new-table users =
    is-table users (replicate (7 + users) None) (replicate users 14) (length-replicate users 14) (length-replicate (7 + users) None) (none-users users (7 + users))
    (λ v below. get_or-replicate users v 14 14 below ∙ ap first_rank (sym (none-owned v (all_locks users) (7 + users))))
