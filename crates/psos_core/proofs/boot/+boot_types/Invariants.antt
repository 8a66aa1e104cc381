use Rattle.std.proofs.Common.{length}
use Rattle.psos_core.proofs.boot.+boot_types.Given as goal

abbrev pub decreases-boot_types : goal.decreases-boot_types
decreases-boot_types l = length l.texts.now
