use Rattle.std.proofs.Common.{length}
use Rattle.psos_model.proofs.left.+current_phase.Given as goal

abbrev pub decreases-current_phase : goal.decreases-current_phase
decreases-current_phase l = length l.users.now
