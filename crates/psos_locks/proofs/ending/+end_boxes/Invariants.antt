use Rattle.std.specs.Prelude.{vec_len}
use Rattle.psos_locks.proofs.ending.+end_boxes.Given as goal

abbrev pub decreases-end_boxes : goal.decreases-end_boxes
decreases-end_boxes g l = vec_len l.locks.now
