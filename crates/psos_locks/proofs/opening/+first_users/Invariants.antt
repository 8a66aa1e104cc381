use Rattle.std.proofs.Common.{length}
use Rattle.psos_locks.proofs.opening.+first_users.Given as goal

abbrev pub decreases-first_users : goal.decreases-first_users
decreases-first_users g l = length l.privates.now.items
