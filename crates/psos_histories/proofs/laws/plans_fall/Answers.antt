use Rattle.psos_histories.proofs.Falling.{plans_fall}
use Rattle.psos_histories.proofs.laws.plans_fall.Goals as goal

pub returns : goal.returns
returns c = plans_fall
