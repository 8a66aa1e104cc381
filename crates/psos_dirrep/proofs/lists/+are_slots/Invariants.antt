use Rattle.std.proofs.Common.{◌*◌, ◌-◌, length}
use Rattle.psos_dirrep.proofs.lists.+are_slots.Given as goal

abbrev pub decreases-are_slots : goal.decreases-are_slots
decreases-are_slots l = 16 * length l.pages.now - l.g
