use Rattle.psos_calls.proofs.RefusedCalls as refusals
use Rattle.psos_calls.proofs.laws.refused_calls_change_nothing.Goals as goal

pub returns : goal.returns
returns c = refusals.refused_calls_change_nothing
