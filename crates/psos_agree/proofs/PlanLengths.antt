-- How many calls a plan makes at most, whatever the levels answer. States docs/requests.md, "Plans".
use Rattle.std.proofs.Common.{◌≤◌, length, arith}
use Rattle.psos_calls.specs.declared.request.Request.{Request}
use Rattle.psos_calls.specs.declared.request.Request.TheVariants.{Find}
use Rattle.psos_calls.specs.Language.User.{User}
use Rattle.psos_calls.specs.Plan.Requests.{plan_of}
use Rattle.psos_agree.specs.Agreement.{PlansAreShort}
use Rattle.psos_agree.proofs.PlanCalls.{most_calls, plan_walked, short_run}

-- a name space has at most 4 directories
few_calls : (x : User) (request : Request) → length x.path ≤ 4 → most_calls x request ≤ 44
few_calls x (Find rd name) short = omega (arith, short)
few_calls x _ short = omega arith

pub plans_are_short : PlansAreShort
plans_are_short x l request short = omega (arith, short_run (plan_of x request) l (plan_walked {users = 0} x request), few_calls x request short)
