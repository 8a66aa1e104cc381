use Rattle.psos_laws.proofs.RoomToStep.{can_step}
use Rattle.psos_laws.proofs.starts.sound_can_step.Goals as goal

pub returns : goal.returns
returns c = can_step
