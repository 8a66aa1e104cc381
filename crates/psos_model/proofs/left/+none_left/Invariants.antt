use Rattle.std.proofs.Common.{length}
use Rattle.psos_model.proofs.left.+none_left.Given as goal

abbrev pub decreases-none_left : goal.decreases-none_left
decreases-none_left l = length l.users.now
