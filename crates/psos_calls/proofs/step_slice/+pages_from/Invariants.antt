use Rattle.std.proofs.Common.{◌-◌}
use Rattle.psos_calls.proofs.step_slice.+pages_from.Given as goal

abbrev pub decreases-pages_from : goal.decreases-pages_from
decreases-pages_from l = l.to - l.from
