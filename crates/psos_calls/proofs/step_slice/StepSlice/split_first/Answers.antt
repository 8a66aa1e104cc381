use Rattle.std.proofs.Common.{◌<◌, sym, ◌∙◌, arith}
use Rattle.psos_calls.proofs.TraceSteps.{range-first}
use Rattle.psos_calls.proofs.step_slice.StepSlice.split_first.Goals as goal

pub returns : goal.returns
returns c =
    let less : c.self.inside.from < c.self.inside.to = let ordered = c.self.invariant.0 in let other = c.if-self.false in omega arith in
    sym c.self.view_is ∙ range-first c.self.inside.trace.now c.self.inside.from c.self.inside.to c.step.result less c.step.ensures
