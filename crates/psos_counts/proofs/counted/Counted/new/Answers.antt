use Rattle.psos_counts.proofs.ClassCounts.{counts_empty}
use Rattle.psos_counts.proofs.counted.Counted.new.Goals as goal

pub invariant_of-result : goal.invariant_of-result
invariant_of-result g c = rw (c.new.ensures, c.new-2.ensures) (counts_empty g.C.Class.class)
