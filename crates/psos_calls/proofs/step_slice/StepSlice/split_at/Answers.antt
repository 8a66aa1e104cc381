use Rattle.std.proofs.Common.{◌+◌, ◌≤◌, List, drop, length, ap, ◌∙◌, arith}
use Rattle.psos_calls.specs.declared.step.Step.{Step}
use Rattle.psos_calls.proofs.TraceSteps.{range-rest, range-length}
use Rattle.psos_calls.proofs.step_slice.StepSlice.split_at.Goals as goal

pub returns-clause-rest : goal.returns-clause-rest
returns-clause-rest c =
    let steps = c.self.inside.trace.now in
    let from = c.self.inside.from in
    let to = c.self.inside.to in
    let long = range-length steps from to c.self.invariant.1 in
    let seen = ap length c.self.view_is in
    let within : from + c.args.n ≤ to = let ordered = c.self.invariant.0 in omega (arith, c.requires) in
    range-rest steps from to c.args.n within ∙ ap (λ (rest : List Step). drop c.args.n rest) c.self.view_is
