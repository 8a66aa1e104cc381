use Rattle.std.proofs.Common.{length}
use Rattle.psos_plan_dir.proofs.collect.+none_used.Given as goal

abbrev pub decreases-none_used : goal.decreases-none_used
decreases-none_used l = length l.calls.now
