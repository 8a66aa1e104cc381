use Rattle.std.proofs.Common.{◌≡◌, drop}
use Rattle.psos_locks.specs.Stages.{are_going}
use Rattle.psos_locks.proofs.phases.are_going.Given as goal

abbrev pub invariant-users : goal.invariant-users
invariant-users g l = are_going (drop l.user-index l.users) ≡ are_going l.users
