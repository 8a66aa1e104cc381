use Rattle.psos_check.proofs.StampLaws.{stamps_below}
use Rattle.psos_check.proofs.laws.stamps_are_below.Goals as goal

pub returns : goal.returns
returns c = stamps_below
