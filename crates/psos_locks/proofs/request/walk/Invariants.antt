use Rattle.std.proofs.Common.{◌-◌, length}
use Rattle.psos_locks.specs.Grips.{grips_of}
use Rattle.psos_locks.specs.Users.{HasGone, IsAtWork}
use Rattle.psos_locks.proofs.request.walk.Given as goal

abbrev pub invariant-walk : goal.invariant-walk
invariant-walk g l = HasGone l.fn.own l.own × IsAtWork g.T.Run.script l.own l.request (grips_of l.hands)

abbrev pub decreases-walk : goal.decreases-walk
decreases-walk g l = 64 - length l.own.trace
