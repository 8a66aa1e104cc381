use Rattle.std.proofs.Common.{length}
use Rattle.psos_model.proofs.left.+phase_at.Given as goal

abbrev pub decreases-phase_at : goal.decreases-phase_at
decreases-phase_at l = length l.phases.now
