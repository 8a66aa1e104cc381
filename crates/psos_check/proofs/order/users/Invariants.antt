use Rattle.psos_check.proofs.Places.{HasTaken}
use Rattle.psos_check.proofs.order.users.Given as goal

abbrev pub invariant-places : goal.invariant-places
invariant-places l = HasTaken l.places l.place-index l.users.items
