use Rattle.std.proofs.Common.{◌≡◌, drop}
use Rattle.psos_model.specs.Run.{earlier}
use Rattle.psos_core.specs.Least.{least}
use Rattle.psos_core.proofs.phases.least.Given as goal

-- the least so far, and those that are left
abbrev pub invariant-phases : goal.invariant-phases
invariant-phases l = earlier l.least (least (drop l.phase-index l.phases)) ≡ least l.phases
