use Rattle.psos_events.proofs.PhaseOrder.{phases_follow}
use Rattle.psos_events.proofs.laws.phases_follow.Goals as goal

pub returns : goal.returns
returns c = phases_follow
