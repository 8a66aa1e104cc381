use Rattle.std.proofs.Common.{length}
use Rattle.psos_plan_dir.proofs.collect.+collected.Given as goal

abbrev pub decreases-collected : goal.decreases-collected
decreases-collected l = length l.calls.now
