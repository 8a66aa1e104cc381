use Rattle.std.proofs.Common.{length}
use Rattle.psos_model.proofs.boot.+boot_boxes.Given as goal

abbrev pub decreases-boot_boxes : goal.decreases-boot_boxes
decreases-boot_boxes l = length l.texts.now
