-- A plan asks for its locks in the falling order, whatever the levels answer. States docs/levels.md, "Locks".
use Rattle.std.specs.Prelude.{ℕ, ◌||◌, Bool, if◌then◌else◌, List, [], ◌∷◌, IsTrue}
use Rattle.psos_calls.specs.declared.lock_id.LockId.{LockId}
use Rattle.psos_calls.specs.declared.request.Request.{Request}
use Rattle.psos_calls.specs.Language.User.{User}
use Rattle.psos_calls.specs.Levels.Answers.{LevelAnswer}
use Rattle.psos_calls.specs.Locks.{lock_of}
use Rattle.psos_calls.specs.Locks.Held.{is_held, are_earlier}
use Rattle.psos_calls.specs.Plan.{Plan, Close, Ask}
use Rattle.psos_calls.specs.Plan.Requests.{plan_of}

-- the lock is held, or is of a later level than all that are
abbrev pub may_follow : List LockId → LockId → Bool
may_follow locks k = is_held locks k || are_earlier locks k

-- it is held from then on; the last that was taken stands first
abbrev pub with_lock : List LockId → LockId → List LockId
with_lock locks k = if is_held locks k then locks else k ∷ locks

-- from these locks on, the lock of each call that the plan may make may follow, among so many users
abbrev pub Falls : ℕ → List LockId → Plan → Type 0
Falls n locks (Close reply effect) = Unit {0}
Falls n locks (Ask call go) = IsTrue (may_follow locks (lock_of n call)) × ((a : LevelAnswer) → Falls n (with_lock locks (lock_of n call)) (go a))

-- the plan of each request does so from no lock on
abbrev pub PlansFall : Type 0
PlansFall = (n : ℕ) (x : User) (request : Request) → Falls n [] (plan_of x request)
