use Rattle.psos_events.proofs.CommittedValues as committed
use Rattle.psos_events.proofs.laws.closes_commit.Goals as goal

pub returns : goal.returns
returns c = committed.closes_commit
