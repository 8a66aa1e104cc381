use Rattle.psos_events.proofs.EventConditions as able
use Rattle.psos_events.proofs.laws.events_can_happen.Goals as goal

pub returns : goal.returns
returns c = able.events_can_happen
