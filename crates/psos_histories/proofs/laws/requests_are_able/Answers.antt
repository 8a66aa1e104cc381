use Rattle.psos_histories.proofs.RequestConditions.{requests_are_able}
use Rattle.psos_histories.proofs.laws.requests_are_able.Goals as goal

pub returns : goal.returns
returns c = requests_are_able
