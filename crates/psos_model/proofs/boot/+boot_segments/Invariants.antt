use Rattle.std.proofs.Common.{length}
use Rattle.psos_model.proofs.boot.+boot_segments.Given as goal

abbrev pub decreases-boot_segments : goal.decreases-boot_segments
decreases-boot_segments l = length l.texts.now
