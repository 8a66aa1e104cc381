use Rattle.psos_segs.proofs.SegmentBounds.{within_gone}
use Rattle.psos_segs.proofs.segs.Segs.remove.Goals as goal

pub invariant_of-self : goal.invariant_of-self
invariant_of-self c = rw (c.remove.ensures.rest, c.drop_class.ensures) (within_gone c.self.invariant c.args.uid.0 _)
