use Rattle.std.proofs.Common.{length}
use Rattle.psos_core.proofs.boot.+boot_reps.Given as goal

abbrev pub decreases-boot_reps : goal.decreases-boot_reps
decreases-boot_reps l = length l.texts.now
