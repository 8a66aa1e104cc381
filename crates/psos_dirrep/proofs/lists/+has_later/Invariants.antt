use Rattle.std.proofs.Common.{◌*◌, ◌-◌, length}
use Rattle.psos_dirrep.proofs.lists.+has_later.Given as goal

abbrev pub decreases-has_later : goal.decreases-has_later
decreases-has_later l = 16 * length l.pages.now - l.g
