use Rattle.std.proofs.Common.{◌*◌, ◌-◌, length}
use Rattle.psos_dirrep.proofs.lists.+are_apart.Given as goal

abbrev pub decreases-are_apart : goal.decreases-are_apart
decreases-are_apart l = 16 * length l.pages.now - l.g
