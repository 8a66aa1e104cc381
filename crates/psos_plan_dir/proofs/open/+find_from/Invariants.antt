use Rattle.std.proofs.Common.{length}
use Rattle.psos_plan_dir.proofs.open.+find_from.Given as goal

abbrev pub decreases-find_from : goal.decreases-find_from
decreases-find_from l = length l.calls.now
