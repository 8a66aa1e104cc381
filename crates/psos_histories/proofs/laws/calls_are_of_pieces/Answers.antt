use Rattle.psos_histories.proofs.Pieces.{calls_are_of_pieces}
use Rattle.psos_histories.proofs.laws.calls_are_of_pieces.Goals as goal

pub returns : goal.returns
returns c = calls_are_of_pieces
