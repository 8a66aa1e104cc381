use Rattle.std.proofs.Common.{sym, ◌∙◌, subst}
use Rattle.psos_calls.specs.Plan.Requests.{plan_of}
use Rattle.psos_calls.specs.Plan.Trace.{followed}
use Rattle.psos_model.proofs.RequestRanges.{in_range}
use Rattle.psos_locks.specs.Grips.{grips_of}
use Rattle.psos_locks.specs.Runs.{AsksFor}
use Rattle.psos_locks.specs.Users.{OwnView}
use Rattle.psos_locks.proofs.Working.{may_ask, asks_for}
use Rattle.psos_locks.proofs.request.step.Goals as goal

pub asked-requires-clause-in_range : goal.asked-requires-clause-in_range
asked-requires-clause-in_range g c = in_range g.T.Run.script c.requires.script c.args.own.now.own c.args.request.now c.requires.asks

pub asked-requires-clause-trace : goal.asked-requires-clause-trace
asked-requires-clause-trace g c =
    let may = may_ask g.T.Run.script c.requires.script c.args.own.now.side c.args.own.now.own c.args.request.now (grips_of c.args.hands.now) c.args.own.now.trace c.requires.work c.requires.asks in
    (may.levels, may.trace_is, may.lists)

pub hold-requires-clause-asked : goal.hold-requires-clause-asked
hold-requires-clause-asked g c = asks_for (followed (plan_of c.args.own.now.own c.args.request.now) c.args.own.now.trace) c.in-Call.level c.in-Call.call (sym c.in-Call.is ∙ c.in-Ok.ensures)

pub make-requires-clause-asked : goal.make-requires-clause-asked
make-requires-clause-asked g c =
    subst (λ (o : OwnView). AsksFor (followed (plan_of o.own c.args.request.now) o.trace) c.in-Call.level c.in-Call.call) (sym c.hold.ensures.own)
    (asks_for (followed (plan_of c.args.own.now.own c.args.request.now) c.args.own.now.trace) c.in-Call.level c.in-Call.call (sym c.in-Call.is ∙ c.in-Ok.ensures))
