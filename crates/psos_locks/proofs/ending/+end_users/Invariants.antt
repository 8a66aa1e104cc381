use Rattle.std.specs.Prelude.{vec_len}
use Rattle.psos_locks.proofs.ending.+end_users.Given as goal

abbrev pub decreases-end_users : goal.decreases-end_users
decreases-end_users g l = vec_len l.users.now
