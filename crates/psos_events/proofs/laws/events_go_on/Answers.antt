use Rattle.psos_events.proofs.EventBound as measured
use Rattle.psos_events.proofs.laws.events_go_on.Goals as goal

pub returns : goal.returns
returns c = measured.events_go_on
