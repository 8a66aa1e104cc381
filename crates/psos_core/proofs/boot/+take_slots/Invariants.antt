use Rattle.psos_core.proofs.boot.+take_slots.Given as goal

abbrev pub decreases-take_slots : goal.decreases-take_slots
decreases-take_slots g l = l.count
