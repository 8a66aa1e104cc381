use Rattle.std.proofs.Common.{length}
use Rattle.psos_plan_dir.proofs.open.+free_from.Given as goal

abbrev pub decreases-free_from : goal.decreases-free_from
decreases-free_from l = length l.calls.now
