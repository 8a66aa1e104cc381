use Rattle.std.proofs.Common.{◌≡◌, ◌<◌, ◌+◌, Bool, true, false, cond, suc, sym, ap, ◌∙◌, arith}
use Rattle.std.specs.Prelude.{slice_range}
use Rattle.psos_calls.specs.Levels.Level7.{reads_page}
use Rattle.psos_calls.specs.Plan.Asked.{pages_first}
use Rattle.psos_calls.proofs.TraceSteps.{range-first}
use Rattle.psos_calls.proofs.step_slice.+pages_from.Goals as goal

pub returns-then-not-reads_page-clause-value : goal.returns-then-not-reads_page-clause-value
returns-then-not-reads_page-clause-value t c =
    let steps = c.args.trace.now in
    let less : c.args.from < c.args.to = let ordered = c.requires.ordered in let other = c.if-from-to.false in omega arith in
    let behind = slice_range steps (c.args.from + 1) c.args.to in
    let read : reads_page c.step.result.call ≡ false = sym c.reads_page.ensures ∙ c.if-not-reads_page.true in
    sym (ap pages_first (range-first steps c.args.from c.args.to c.step.result less c.step.ensures) ∙ ap (λ (b : Bool). cond b (suc (pages_first behind)) 0) read)

pub returns-clause-value : goal.returns-clause-value
returns-clause-value t c =
    let steps = c.args.trace.now in
    let less : c.args.from < c.args.to = let ordered = c.requires.ordered in let other = c.if-from-to.false in omega arith in
    let behind = slice_range steps (c.args.from + 1) c.args.to in
    let read : reads_page c.step.result.call ≡ true = sym c.reads_page.ensures ∙ c.if-not-reads_page.false in
    let one : 1 + c.pages_from.result ≡ suc c.pages_from.result = omega arith in
    one ∙ ap suc c.pages_from.ensures.value ∙ sym (ap pages_first (range-first steps c.args.from c.args.to c.step.result less c.step.ensures) ∙ ap (λ (b : Bool). cond b (suc (pages_first behind)) 0) read)
