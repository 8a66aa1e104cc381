use Rattle.psos_histories.proofs.Pieces.{pieces_are_all}
use Rattle.psos_histories.proofs.laws.pieces_are_all.Goals as goal

pub returns : goal.returns
returns c = pieces_are_all
