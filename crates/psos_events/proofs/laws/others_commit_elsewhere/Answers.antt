use Rattle.psos_events.proofs.CommittedValues as committed
use Rattle.psos_events.proofs.laws.others_commit_elsewhere.Goals as goal

pub returns : goal.returns
returns c = committed.others_commit_elsewhere
