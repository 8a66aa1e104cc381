use Rattle.psos_histories.proofs.Phases.{nobody_has_left}
use Rattle.psos_histories.proofs.laws.nobody_has_left.Goals as goal

pub returns : goal.returns
returns c = nobody_has_left
