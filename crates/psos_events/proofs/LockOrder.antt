-- Each plan asks for its locks in the falling order, whatever the levels answer. States docs/levels.md, "Locks".
use Rattle.std.proofs.Common.{◌≡◌, ℕ, zero, suc, ◌||◌, Bool, true, false, cond, List, [], ◌∷◌, sym, ap, subst, ◌∙◌}
use Rattle.std.proofs.lemmas.Bool.{or_left}
use Rattle.psos_calls.specs.declared.lock_id.LockId.{LockId}
use Rattle.psos_calls.specs.Levels.Answers.{LevelAnswer}
use Rattle.psos_calls.specs.Levels.Calls.{LevelCall}
use Rattle.psos_calls.specs.declared.request.Request.{Request}
use Rattle.psos_calls.specs.Language.User.{User}
use Rattle.psos_calls.specs.Locks.Held.{same_lock, is_held, are_earlier}
use Rattle.psos_calls.specs.Locks.{lock_of}
use Rattle.psos_calls.specs.Plan.{Plan, Close, Ask}
use Rattle.psos_calls.specs.Plan.Requests.{plan_of}
use Rattle.psos_agree.proofs.LocksTaken.{fits, with_lock, with_held, same_lock_refl}
use Rattle.psos_agree.proofs.PlanInduction.{Along, GoesAlong, asks}
use Rattle.psos_agree.proofs.PlanCalls.{MayAsk, after, most_calls, plan_walked}

-- each lock is of a later level than those that were taken before it; the last that was taken stands first
abbrev pub AreInOrder : List LockId → Type 0
AreInOrder [] = Unit {0}
AreInOrder (k ∷ locks) = (are_earlier locks k ≡ true) × AreInOrder locks

-- ---- plans whose calls fit, whatever is answered

-- the lock is held or fits
abbrev pub MayTake : ℕ × List LockId → LevelCall → Type 0
MayTake (users, locks) call = fits locks (lock_of users call) ≡ true

abbrev pub taken : ℕ × List LockId → LevelCall → ℕ × List LockId
taken (users, locks) call = (users, with_lock locks (lock_of users call))

-- however many calls it makes
abbrev pub IsFalling : ℕ → List LockId → Plan → Type 0
IsFalling users locks plan = GoesAlong MayTake taken (users, locks) plan

falls_along : (users : ℕ) (plan : Plan) (n : ℕ) (locks : List LockId) → Along MayAsk after (users, n, locks) plan → Along MayTake taken (users, locks) plan
falls_along users (Close reply effect) n locks h = tt
falls_along users (Ask call go) zero locks h = absurd h.0
falls_along users (Ask call go) (suc n) locks h = (h.0, λ a. falls_along users (go a) n (with_lock locks (lock_of users call)) (h.1 a))

pub plan_falls : {users : ℕ} (x : User) (request : Request) → IsFalling users [] (plan_of x request)
plan_falls {users} x request = record { along = falls_along users (plan_of x request) (most_calls x request) [] (plan_walked {users = users} x request).along }

-- ---- along a plan

module _ {users : ℕ} {locks : List LockId} {call : LevelCall} {go : LevelAnswer → Plan} (h : IsFalling users locks (Ask call go)) where
  -- the lock of its next call is later than all that are held, if it is not held
  pub falls_later : is_held locks (lock_of users call) ≡ false → are_earlier locks (lock_of users call) ≡ true
  falls_later other = ap (λ (b : Bool). b || are_earlier locks (lock_of users call)) (sym other) ∙ h.along.0

  -- where it is taken
  pub falls_taken : is_held locks (lock_of users call) ≡ false → IsFalling users (lock_of users call ∷ locks) (Ask call go)
  falls_taken other =
      let k = lock_of users call in
      let rest : (a : LevelAnswer) → IsFalling users (k ∷ locks) (go a) = λ a. subst (λ (ks : List LockId). IsFalling users ks (go a)) (ap (λ (b : Bool). cond b locks (k ∷ locks)) other) (record { along = h.along.1 a }) in
      let held : is_held (k ∷ locks) k ≡ true = or_left (same_lock k k) (is_held locks k) (same_lock_refl k) in
      asks (or_left (is_held (k ∷ locks) k) (are_earlier (k ∷ locks) k) held) (λ a. subst (λ (ks : List LockId). IsFalling users ks (go a)) (sym (with_held (k ∷ locks) k held)) (rest a))

  -- where the call is made
  pub falls_called : is_held locks (lock_of users call) ≡ true → (a : LevelAnswer) → IsFalling users locks (go a)
  falls_called mine a = subst (λ (ks : List LockId). IsFalling users ks (go a)) (with_held locks (lock_of users call) mine) (record { along = h.along.1 a })
