use Rattle.psos_segs.proofs.SegmentBounds.{within_made}
use Rattle.psos_segs.proofs.segs.Segs.make.Goals as goal

pub invariant_of-self-2 : goal.invariant_of-self-2
invariant_of-self-2 c = rw c.in_ok-put.ensures.ok (within_made c.self.invariant c.args.uid.0 c.args.row c.requires.slot c.requires.len)
