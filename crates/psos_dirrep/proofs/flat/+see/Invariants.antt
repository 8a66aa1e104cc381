use Rattle.std.proofs.Common.{length}
use Rattle.psos_dirrep.proofs.flat.+see.Given as goal

abbrev pub decreases-see : goal.decreases-see
decreases-see l = length l.pages.now
