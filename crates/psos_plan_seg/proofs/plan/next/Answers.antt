use Rattle.std.proofs.Common.{subst}
use Rattle.psos_calls.specs.declared.request.Request.{Request}
use Rattle.psos_calls.specs.Plan.Requests.{plan_of}
use Rattle.psos_calls.specs.Plan.Trace.{IsTraceOf}
use Rattle.psos_plan_seg.proofs.plan.next.Goals as goal

pub next_window-requires-clause-trace : goal.next_window-requires-clause-trace
next_window-requires-clause-trace c =
    let l = c.requires.trace.0 in
    let P : Request → Type 0 = λ q. IsTraceOf (plan_of c.args.me.now q) l c.args.trace.now in
    rw (c.as_slice-trace.ensures) (l, subst P c.in-Window.is c.requires.trace.1)
