-- A plan asks for its locks in the falling order. States docs/levels.md, "Locks".
use Rattle.std.proofs.Common.{◌≡◌, ℕ, ◌||◌, Bool, true, false, cond, List, [], ◌∷◌, sym, subst}
use Rattle.std.proofs.lemmas.Bool.{or_left}
use Rattle.psos_calls.specs.declared.lock_id.LockId.{LockId}
use Rattle.psos_calls.specs.Levels.Calls.{LevelCall}
use Rattle.psos_calls.specs.Levels.Answers.{LevelAnswer}
use Rattle.psos_calls.specs.Locks.{lock_of}
use Rattle.psos_calls.specs.Locks.Held.{same_lock, is_held, are_earlier}
use Rattle.psos_calls.specs.Plan.{Plan, Close, Ask}
use Rattle.psos_calls.specs.Plan.Requests.{plan_of}
use Rattle.psos_agree.proofs.LocksTaken.{with_held, same_lock_refl}
use Rattle.psos_agree.proofs.PlanInduction.{Along}
use Rattle.psos_events.proofs.LockOrder.{MayTake, taken, plan_falls}
use Rattle.psos_histories.specs.Falling.{with_lock, Falls, PlansFall}

falls_along : (n : ℕ) (plan : Plan) (locks : List LockId) → Along MayTake taken (n, locks) plan → Falls n locks plan
falls_along n (Close reply effect) locks h = tt
falls_along n (Ask call go) locks h = (h.0, λ a. falls_along n (go a) (with_lock locks (lock_of n call)) (h.1 a))

pub plans_fall : PlansFall
plans_fall n x request = falls_along n (plan_of x request) [] (plan_falls {users = n} x request).along

module _ (n : ℕ) (locks : List LockId) (call : LevelCall) (go : LevelAnswer → Plan) (h : Falls n locks (Ask call go)) where
  abbrev k : LockId
  k = lock_of n call

  -- the lock of the next call is later than all that are held, where it is not held
  pub later : is_held locks k ≡ false → are_earlier locks k ≡ true
  later other = subst (λ (b : Bool). b || are_earlier locks k ≡ true) other h.0

  -- it is taken
  pub falls_taken : is_held locks k ≡ false → Falls n (k ∷ locks) (Ask call go)
  falls_taken other =
      let held : is_held (k ∷ locks) k ≡ true = or_left (same_lock k k) (is_held locks k) (same_lock_refl k) in
      let rest : (a : LevelAnswer) → Falls n (k ∷ locks) (go a) = λ a. subst (λ (b : Bool). Falls n (cond b locks (k ∷ locks)) (go a)) other (h.1 a) in (
        or_left (is_held (k ∷ locks) k) (are_earlier (k ∷ locks) k) held,
        λ a. subst (λ (ks : List LockId). Falls n ks (go a)) (sym (with_held (k ∷ locks) k held)) (rest a),
      )

  -- the call is made
  pub falls_called : is_held locks k ≡ true → (a : LevelAnswer) → Falls n locks (go a)
  falls_called mine a = subst (λ (ks : List LockId). Falls n ks (go a)) (with_held locks k mine) (h.1 a)
