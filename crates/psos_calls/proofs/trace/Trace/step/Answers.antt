use Rattle.std.proofs.Common.{Some, slice_get, sym, ap, ◌∙◌, arith}
use Rattle.psos_calls.specs.declared.level.Level.{Level}
use Rattle.psos_calls.proofs.TraceSteps.{step-at, calls-few}
use Rattle.psos_calls.proofs.trace.Trace.step.Goals as goal

pub call-call-requires : goal.call-call-requires
call-call-requires c =
    let few = calls-few c.self.inside.calls c.self.inside.answers c.args.self.now c.self.invariant.answered c.self.view_is in
    let within = c.requires in
    omega arith

pub answer-requires : goal.answer-requires
answer-requires c =
    let few = calls-few c.self.inside.calls c.self.inside.answers c.args.self.now c.self.invariant.answered c.self.view_is in
    let answered = c.self.invariant.answered in
    let within = c.requires in
    omega arith

pub returns : goal.returns
returns c =
    ap (λ steps. slice_get steps c.args.i) (sym c.self.view_is)
    ∙ step-at c.self.inside.calls c.self.inside.answers c.args.i _ c.call-call.result c.answer.result c.call-call.ensures c.answer.ensures
    ∙ ap (λ (level : Level). Some (record { level = level; call = c.call-call.result; answer = c.answer.result })) (sym c.level.ensures)
