use Rattle.psos_histories.proofs.Phases.{left_in_phase}
use Rattle.psos_histories.proofs.laws.left_in_phase.Goals as goal

pub returns : goal.returns
returns c = left_in_phase
