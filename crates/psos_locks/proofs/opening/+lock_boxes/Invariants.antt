use Rattle.std.specs.Prelude.{vec_len}
use Rattle.psos_locks.proofs.opening.+lock_boxes.Given as goal

abbrev pub decreases-lock_boxes : goal.decreases-lock_boxes
decreases-lock_boxes g l = vec_len l.boxes.now
