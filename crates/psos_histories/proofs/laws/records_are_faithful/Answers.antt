use Rattle.psos_histories.proofs.RecordLimits.{records_are_faithful}
use Rattle.psos_histories.proofs.laws.records_are_faithful.Goals as goal

pub returns : goal.returns
returns c = records_are_faithful
