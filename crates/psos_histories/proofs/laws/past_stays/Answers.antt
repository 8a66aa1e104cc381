use Rattle.psos_histories.proofs.Phases.{past_stays}
use Rattle.psos_histories.proofs.laws.past_stays.Goals as goal

pub returns : goal.returns
returns c = past_stays
