use Rattle.psos_locks.proofs.Meeting.{Heard}
use Rattle.psos_locks.proofs.meet.meet_all.Given as goal

abbrev pub invariant-others : goal.invariant-others
invariant-others g l = Heard g.T.Run.script l.next l.fn.users l.i l.v l.users
