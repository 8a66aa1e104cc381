use Rattle.psos_histories.proofs.LockHistories.{histories_begin}
use Rattle.psos_histories.proofs.laws.histories_begin.Goals as goal

pub returns : goal.returns
returns c = histories_begin
