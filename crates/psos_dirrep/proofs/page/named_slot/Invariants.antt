use Rattle.std.proofs.Common.{◌*◌, drop}
use Rattle.psos_dirrep.specs.Scan.{scan}
use Rattle.psos_dirrep.proofs.PageSearch.{HasCome}
use Rattle.psos_dirrep.proofs.page.named_slot.Given as goal

-- what is left to search tells what the whole page tells
abbrev pub invariant-slots : goal.invariant-slots
invariant-slots l = HasCome l.k l.page (scan 0 l.fn.high l.fn.low l.fn.page) (scan l.k l.fn.high l.fn.low (drop (4 * l.k) l.page))
