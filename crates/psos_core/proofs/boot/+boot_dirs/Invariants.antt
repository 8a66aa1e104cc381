use Rattle.std.proofs.Common.{length}
use Rattle.psos_core.proofs.boot.+boot_dirs.Given as goal

abbrev pub decreases-boot_dirs : goal.decreases-boot_dirs
decreases-boot_dirs l = length l.texts.now
