use Rattle.std.proofs.Common.{length, take}
use Rattle.psos_check.proofs.Places.{HasPlaces}
use Rattle.psos_check.proofs.order.order_of_stamps.Given as goal

abbrev pub invariant-lines : goal.invariant-lines
invariant-lines l = HasPlaces (length l.lines) (take l.line-index l.lines) l.places.items
