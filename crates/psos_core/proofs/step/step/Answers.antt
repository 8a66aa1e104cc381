use Rattle.std.proofs.Common.{◌≡◌, length, None, sym, ap, ◌∙◌}
use Rattle.psos_core.specs.Plans.{state_in, next_for, call_in}
use Rattle.psos_core.proofs.EventStep.{asked_call, asked_close}
use Rattle.psos_core.proofs.EventRun.{planned_next, goes}
use Rattle.psos_core.proofs.EventParts.{placed}
use Rattle.psos_core.proofs.step.step.Goals as goal

pub call_of-requires : goal.call_of-requires
call_of-requires g c = placed c.args.script.now (state_in c.args.levels.now c.args.ongoing.now c.args.entries.now) c.args.ongoing.now c.args.user c.requires.may

pub take_or_call-requires-clause-asked : goal.take_or_call-requires-clause-asked
take_or_call-requires-clause-asked g c =
    let s = c.args.script.now in
    let o = c.args.ongoing.now in
    let now = state_in c.args.levels.now o c.args.entries.now in
    let u = c.args.user in
    asked_call (next_for s now u) c.in-Some.level c.in-Some.call (ap call_in (sym (planned_next s now o u c.requires.may)) ∙ (sym c.call_of.ensures ∙ c.in-Some.is))

pub close-requires-clause-asked : goal.close-requires-clause-asked
close-requires-clause-asked g c =
    let s = c.args.script.now in
    let o = c.args.ongoing.now in
    let now = state_in c.args.levels.now o c.args.entries.now in
    let u = c.args.user in
    let no_call : call_in (next_for s now u) ≡ None = ap call_in (sym (planned_next s now o u c.requires.may)) ∙ (sym c.call_of.ensures ∙ c.in-None.is) in
    let closing = asked_close (length s.users) now.held u (next_for s now u) no_call (goes s now o u c.requires.may) in
    (closing.reply, closing.effect, closing.is)
