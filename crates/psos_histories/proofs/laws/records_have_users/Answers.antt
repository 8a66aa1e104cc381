use Rattle.psos_histories.proofs.RecordLimits.{records_have_users}
use Rattle.psos_histories.proofs.laws.records_have_users.Goals as goal

pub returns : goal.returns
returns c = records_have_users
