use Rattle.std.proofs.Common.{◌≡◌, ◌≤◌, length}
use Rattle.psos_calls.specs.Plan.{run_plan}
use Rattle.psos_calls.specs.Plan.Requests.{plan_of}
use Rattle.psos_calls.specs.Plan.Trace.{followed}
use Rattle.psos_core.specs.System.{levels_of}
use Rattle.psos_core.proofs.PlanRun.{IsLeft}
use Rattle.psos_core.proofs.perform.perform.Given as goal

-- what is left of the plan, run from the levels as they are, is what is left of the whole run
abbrev pub invariant-walk : goal.invariant-walk
invariant-walk g l =
    (IsLeft (plan_of g.me l.request) (levels_of l.initial.levels) (levels_of l.levels) l.trace)
    × (l.levels.privates ≡ l.initial.levels.privates)
    × (g.B.Store.faults l.initial.levels.pages.store ≤ g.B.Store.faults l.levels.pages.store)

abbrev pub decreases-walk : goal.decreases-walk
decreases-walk g l = length (run_plan (followed (plan_of g.me l.request) l.trace) (levels_of l.levels)).calls
