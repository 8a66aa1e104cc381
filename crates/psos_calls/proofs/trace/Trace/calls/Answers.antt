use Rattle.std.proofs.Common.{◌≡◌, List, sym, ap, subst, ◌∙◌}
use Rattle.std.specs.Prelude.{IfOk}
use Rattle.psos_calls.specs.declared.level.Level.{Level}
use Rattle.psos_calls.specs.Levels.Calls.{LevelCall}
use Rattle.psos_calls.specs.Plan.Trace.{calls_in}
use Rattle.psos_calls.proofs.TraceSteps.{steps-calls}
use Rattle.psos_calls.proofs.trace.Trace.calls.Goals as goal

pub returns : goal.returns
returns c =
    let same = sym (steps-calls c.self.inside.calls c.self.inside.answers c.self.invariant.answered) ∙ ap calls_in c.self.view_is in
    subst (λ (calls : List (Level × LevelCall)). IfOk c.steps.result (λ s. s ≡ calls)) same c.steps.ensures
