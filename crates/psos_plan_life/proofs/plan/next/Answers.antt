use Rattle.std.proofs.Common.{◌≡◌, List, sym, subst}
use Rattle.psos_calls.specs.declared.request.Request.{Request}
use Rattle.psos_calls.specs.declared.step.Step.{Step}
use Rattle.psos_calls.specs.Levels.{Levels}
use Rattle.psos_calls.specs.Levels.Lists.{HasLists}
use Rattle.psos_calls.specs.Plan.Requests.{plan_of}
use Rattle.psos_calls.specs.Plan.Trace.{IsTraceOf}
use Rattle.psos_calls.specs.Language.User.{User}
use Rattle.psos_plan_dir.specs.Reads.{IsRun}
use Rattle.psos_plan_life.proofs.plan.next.Goals as goal

-- the trace is of a run of the plan of the request that it is
run : (me : User) (req q : Request) (trace t : List Step) (l : Levels) → IsTraceOf (plan_of me req) l trace → HasLists l → req ≡ q → t ≡ trace → IsRun (plan_of me q) t
run me req q trace t l front lists e f =
    let all : IsRun (plan_of me req) trace = record { levels = l; front = front; lists = lists } in
    subst (IsRun (plan_of me q)) (sym f) (subst (λ (r : Request). IsRun (plan_of me r) trace) e all)

pub next_mkseg-requires-clause-run : goal.next_mkseg-requires-clause-run
next_mkseg-requires-clause-run c = run c.args.me.now c.args.req.now _ c.args.trace.now _ c.requires.trace.0 c.requires.trace.1 c.requires.trace.2 c.in-MkSeg.is c.as_slice-trace.ensures

pub next_mkdir-requires-clause-run : goal.next_mkdir-requires-clause-run
next_mkdir-requires-clause-run c = run c.args.me.now c.args.req.now _ c.args.trace.now _ c.requires.trace.0 c.requires.trace.1 c.requires.trace.2 c.in-MkDir.is c.as_slice-trace.ensures

pub next_mktype-requires-clause-run : goal.next_mktype-requires-clause-run
next_mktype-requires-clause-run c = run c.args.me.now c.args.req.now _ c.args.trace.now _ c.requires.trace.0 c.requires.trace.1 c.requires.trace.2 c.in-MkType.is c.as_slice-trace.ensures

pub next_mkobj-requires-clause-run : goal.next_mkobj-requires-clause-run
next_mkobj-requires-clause-run c = run c.args.me.now c.args.req.now _ c.args.trace.now _ c.requires.trace.0 c.requires.trace.1 c.requires.trace.2 c.in-MkObj.is c.as_slice-trace.ensures

pub next_mkcode-requires-clause-run : goal.next_mkcode-requires-clause-run
next_mkcode-requires-clause-run c = run c.args.me.now c.args.req.now _ c.args.trace.now _ c.requires.trace.0 c.requires.trace.1 c.requires.trace.2 c.in-MkCode.is c.as_slice-trace.ensures

pub next_delete-requires-clause-run : goal.next_delete-requires-clause-run
next_delete-requires-clause-run c = run c.args.me.now c.args.req.now _ c.args.trace.now _ c.requires.trace.0 c.requires.trace.1 c.requires.trace.2 c.in-Delete.is c.as_slice-trace.ensures
