use Rattle.std.proofs.Common.{length}
use Rattle.psos_core.proofs.boot.+boot_segs.Given as goal

abbrev pub decreases-boot_segs : goal.decreases-boot_segs
decreases-boot_segs l = length l.texts.now
