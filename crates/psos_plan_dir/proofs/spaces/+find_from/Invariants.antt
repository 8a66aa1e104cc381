use Rattle.std.proofs.Common.{◌-◌, length}
use Rattle.psos_plan_dir.proofs.spaces.+find_from.Given as goal

abbrev pub decreases-find_from : goal.decreases-find_from
decreases-find_from l = length l.path.now - l.i
