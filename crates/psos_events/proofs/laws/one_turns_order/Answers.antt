use Rattle.psos_events.proofs.TurnsOrder as turns
use Rattle.psos_events.proofs.laws.one_turns_order.Goals as goal

pub returns : goal.returns
returns c = turns.one_turns_order
