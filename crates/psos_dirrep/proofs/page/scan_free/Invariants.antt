use Rattle.std.proofs.Common.{◌*◌, drop}
use Rattle.psos_dirrep.specs.Scan.{scan_free}
use Rattle.psos_dirrep.proofs.PageSearch.{HasCome}
use Rattle.psos_dirrep.proofs.page.scan_free.Given as goal

-- what is left to search tells what the whole page tells
abbrev pub invariant-slots : goal.invariant-slots
invariant-slots l = HasCome l.k l.page (scan_free 0 l.fn.page) (scan_free l.k (drop (4 * l.k) l.page))
