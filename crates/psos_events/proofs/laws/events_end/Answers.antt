use Rattle.psos_events.proofs.EndState as ended
use Rattle.psos_events.proofs.laws.events_end.Goals as goal

pub returns : goal.returns
returns c = ended.events_end
