use Rattle.psos_histories.proofs.LockHistories.{histories_are_replay}
use Rattle.psos_histories.proofs.laws.histories_are_replay.Goals as goal

pub returns : goal.returns
returns c = histories_are_replay
