use Rattle.psos_events.proofs.CommittedValues as committed
use Rattle.psos_events.proofs.laws.committed_was_free.Goals as goal

pub returns : goal.returns
returns c = committed.committed_was_free
