use Rattle.std.proofs.Common.{sym}
use Rattle.psos_model.proofs.RequestRanges.{in_range}
use Rattle.psos_model.proofs.flat.Flat.next_outcome.Goals as goal

pub outcome_of-requires-clause-range : goal.outcome_of-requires-clause-range
outcome_of-requires-clause-range c =
    in_range c.args.script.now c.requires.script c.in-Some.me.now c.in-Some-next_request.request (sym c.in-Some-next_request.ensures)
