use Rattle.std.proofs.Common.{length}
use Rattle.psos_core.proofs.boot.+push_users.Given as goal

abbrev pub decreases-push_users : goal.decreases-push_users
decreases-push_users l = length l.texts.now
