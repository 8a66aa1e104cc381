use Rattle.std.proofs.Common.{length}
use Rattle.psos_core.proofs.boot.+boot_life.Given as goal

abbrev pub decreases-boot_life : goal.decreases-boot_life
decreases-boot_life l = length l.texts.now
