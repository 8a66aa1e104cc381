use Rattle.psos_events.proofs.EventConditions as able
use Rattle.psos_events.proofs.laws.boot_is_core_start.Goals as goal

pub returns : goal.returns
returns c = able.boot_is_core_start
