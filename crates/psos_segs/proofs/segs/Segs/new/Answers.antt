use Rattle.psos_segs.proofs.SegmentBounds.{within_empty}
use Rattle.psos_segs.proofs.segs.Segs.new.Goals as goal

pub invariant_of-result : goal.invariant_of-result
invariant_of-result c = rw (c.new.ensures, c.new-2.ensures) within_empty
