use Rattle.std.proofs.Common.{◌≡◌, ◌≤◌, drop, length, sym, ap, subst, ◌∙◌, arith}
use Rattle.std.specs.Prelude.{slice_range}
use Rattle.std.proofs.lemmas.List.{take_rest}
use Rattle.psos_calls.specs.Plan.Steps.{EndsReading}
use Rattle.psos_calls.proofs.TraceSteps.{ends-from, all-read}
use Rattle.psos_calls.proofs.step_slice.StepSlice.pages_first.Goals as goal

pub returns-then-len-reading-clause-value : goal.returns-then-len-reading-clause-value
returns-then-len-reading-clause-value c =
    let steps = c.self.inside.trace.now in
    let from = c.self.inside.from in
    let to : c.self.inside.to ≡ length steps = c.if-self-len.true ∙ c.len.ensures in
    let rest : c.args.self.now ≡ drop from steps = sym c.self.view_is ∙ ap (λ n. slice_range steps from n) to ∙ take_rest steps from in
    let reading : EndsReading c.reading.result c.args.self.now = subst (EndsReading c.reading.result) (sym rest) (ends-from c.reading.result from steps c.reading.ensures) in
    let few : length c.args.self.now ≤ c.reading.result = let long = c.len-then-self-len.ensures in let less = c.if-len-reading.true in omega arith in
    c.len-then-len-reading.ensures ∙ sym (all-read c.reading.result c.args.self.now reading few)
