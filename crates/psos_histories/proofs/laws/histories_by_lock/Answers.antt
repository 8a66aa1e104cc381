use Rattle.psos_histories.proofs.LockHistories.{histories_by_lock}
use Rattle.psos_histories.proofs.laws.histories_by_lock.Goals as goal

pub returns : goal.returns
returns c = histories_by_lock
