use Rattle.psos_locks.proofs.Meeting.{HaveMetTo}
use Rattle.psos_locks.proofs.meet.meet.Given as goal

abbrev pub invariant-users : goal.invariant-users
invariant-users g l = HaveMetTo l.fn.users l.i l.users
