use Rattle.std.proofs.Common.{sym, ap, ◌∙◌}
use Rattle.psos_calls.specs.Plan.Asked.{kind_asked}
use Rattle.psos_plan_life.proofs.DeletePlan.{picked, was, asks-kind}
use Rattle.psos_plan_life.proofs.delete.pick.Goals as goal

pub returns-in-Is : goal.returns-in-Is
returns-in-Is c =
    picked c.args.dir.now c.args.name.now c.in-Some.step c.args.trace c.in-Some.rest c.in-Some.ensures c.requires.front c.in-Some-kind_asked.uid c.in-Is.kind
    (asks-kind c.in-Some.step.call c.in-Some-kind_asked.uid (sym c.kind_asked.ensures ∙ c.in-Some-kind_asked.is)) c.in-Is.is

pub unreachable-requires : goal.unreachable-requires
unreachable-requires c =
    c.in_default-kind_asked.not-Some _
    (c.kind_asked.ensures ∙ ap kind_asked (was c.args.dir.now c.args.name.now c.in-Some.step c.args.trace c.in-Some.rest c.in-Some.ensures c.requires.front).call)
