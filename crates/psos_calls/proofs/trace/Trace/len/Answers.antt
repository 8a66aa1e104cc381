use Rattle.std.proofs.Common.{length, sym, ap, ◌∙◌}
use Rattle.psos_calls.proofs.TraceSteps.{steps-length}
use Rattle.psos_calls.proofs.trace.Trace.len.Goals as goal

pub returns : goal.returns
returns c = c.len.ensures ∙ sym (steps-length c.self.inside.calls c.self.inside.answers c.self.invariant.answered) ∙ ap length c.self.view_is
