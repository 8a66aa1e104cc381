use Rattle.std.proofs.Common.{length}
use Rattle.psos_laws.proofs.arrivals.+last_to.Given as goal

abbrev pub decreases-last_to : goal.decreases-last_to
decreases-last_to l = length l.list.now
