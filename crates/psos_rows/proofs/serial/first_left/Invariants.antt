use Rattle.psos_rows.proofs.FirstUser.{NoneBelow}
use Rattle.psos_rows.proofs.serial.first_left.Given as goal

abbrev pub invariant-users : goal.invariant-users
invariant-users l = NoneBelow l.script l.flat.users l.u
