use Rattle.std.proofs.Common.{◌*◌, ◌-◌, length}
use Rattle.psos_dirrep.proofs.lists.+are_ordered.Given as goal

abbrev pub decreases-are_ordered : goal.decreases-are_ordered
decreases-are_ordered l = 16 * length l.pages.now - l.g
