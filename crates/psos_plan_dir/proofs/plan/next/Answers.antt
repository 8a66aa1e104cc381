use Rattle.std.proofs.Common.{◌≡◌, List, refl, sym, subst}
use Rattle.psos_calls.specs.declared.request.Request.{Request}
use Rattle.psos_calls.specs.declared.step.Step.{Step}
use Rattle.psos_calls.specs.Levels.{Levels}
use Rattle.psos_calls.specs.Levels.Lists.{HasLists}
use Rattle.psos_calls.specs.Plan.Requests.{plan_of}
use Rattle.psos_calls.specs.Plan.Trace.{IsTraceOf}
use Rattle.psos_calls.specs.Language.User.{User}
use Rattle.psos_plan_dir.specs.Reads.{IsRun}
use Rattle.psos_plan_dir.proofs.plan.next.Goals as goal

run : (me : User) (req q : Request) (trace t : List Step) (l : Levels) → IsTraceOf (plan_of me req) l trace → HasLists l → req ≡ q → t ≡ trace → IsRun (plan_of me q) t
run me req q trace t l front lists e f =
    let all : IsRun (plan_of me req) trace = record { levels = l; front = front; lists = lists } in
    subst (IsRun (plan_of me q)) (sym f) (subst (λ (r : Request). IsRun (plan_of me r) trace) e all)

pub next_lookup-requires-clause-run : goal.next_lookup-requires-clause-run
next_lookup-requires-clause-run c = run c.args.me.now c.args.req.now _ c.args.trace.now _ c.requires.trace.0 c.requires.trace.1 c.requires.trace.2 c.in-Lookup.is c.as_slice-steps.ensures

pub next_bind-requires-clause-run : goal.next_bind-requires-clause-run
next_bind-requires-clause-run c = run c.args.me.now c.args.req.now _ c.args.trace.now _ c.requires.trace.0 c.requires.trace.1 c.requires.trace.2 c.in-Bind.is c.as_slice-steps.ensures

pub next_unbind-requires-clause-run : goal.next_unbind-requires-clause-run
next_unbind-requires-clause-run c = run c.args.me.now c.args.req.now _ c.args.trace.now _ c.requires.trace.0 c.requires.trace.1 c.requires.trace.2 c.in-Unbind.is c.as_slice-steps.ensures

pub next_list-requires-clause-run : goal.next_list-requires-clause-run
next_list-requires-clause-run c = run c.args.me.now c.args.req.now _ c.args.trace.now _ c.requires.trace.0 c.requires.trace.1 c.requires.trace.2 c.in-List.is c.as_slice-steps.ensures

pub next_find-requires-clause-run : goal.next_find-requires-clause-run
next_find-requires-clause-run c = run c.args.me.now c.args.req.now _ c.args.trace.now _ c.requires.trace.0 c.requires.trace.1 c.requires.trace.2 c.in-Find.is refl
