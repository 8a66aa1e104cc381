use Rattle.psos_agree.proofs.PlanLengths as lengths
use Rattle.psos_agree.proofs.laws.plans_are_short.Goals as goal

pub returns : goal.returns
returns c = lengths.plans_are_short
