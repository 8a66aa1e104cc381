use Rattle.psos_histories.proofs.RecordLimits.{lists_are_users}
use Rattle.psos_histories.proofs.laws.lists_are_users.Goals as goal

pub returns : goal.returns
returns c = lists_are_users
