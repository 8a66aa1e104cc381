use Rattle.psos_events.proofs.ReplayInvariant as kept
use Rattle.psos_events.proofs.laws.events_are_serial.Goals as goal

pub returns : goal.returns
returns c = kept.events_are_serial
