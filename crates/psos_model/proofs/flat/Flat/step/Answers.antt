use Rattle.std.proofs.Common.{sym}
use Rattle.psos_model.proofs.RequestRanges.{in_range}
use Rattle.psos_model.proofs.FlatStep.{still_there, can_settle, stepped}
use Rattle.psos_model.proofs.flat.Flat.step.Goals as goal

pub outcome_of-requires-clause-range : goal.outcome_of-requires-clause-range
outcome_of-requires-clause-range c =
    in_range c.args.script.now c.requires.script c.in-Some.me.now c.in-Some-next_request.request (sym c.in-Some-next_request.ensures)

pub settle-requires : goal.settle-requires
settle-requires c =
    let f = c.args.self.now in
    let x = c.in-Some.me.now in
    let o = c.in_ok-outcome.outcome in
    let there = sym c.in-Some.ensures in
    can_settle c.args.script.now c.requires.script c.apply_all.new.self.users o c.args.user x c.in-Some-next_request.request
    (still_there f c.apply_all.new.self o c.args.user x c.in_ok-apply_all.ensures.ok there)
    (c.requires.state.counts x there) (sym c.in-Some-next_request.ensures) c.in_ok-outcome.ensures.fits

pub returns-clause-state : goal.returns-clause-state
returns-clause-state c =
    stepped c.args.script.now c.args.self.now c.apply_all.new.self c.in_ok-outcome.outcome c.settle.new.self c.args.user c.in-Some.me.now c.in-Some-next_request.request
    (sym c.in-Some.ensures) (sym c.in-Some-next_request.ensures) c.in_ok-apply_all.ensures.ok c.in_ok-outcome.ensures.value c.settle.ensures.settled
