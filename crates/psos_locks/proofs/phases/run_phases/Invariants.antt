use Rattle.std.proofs.Common.{◌≡◌}
use Rattle.psos_core.specs.UnderWay.{phases_most}
use Rattle.psos_locks.specs.Stages.{AreServed}
use Rattle.psos_locks.proofs.phases.run_phases.Given as goal

abbrev pub invariant-phases : goal.invariant-phases
invariant-phases g l = AreServed g.T.Run.script l.p l.users × (l.phases ≡ phases_most g.T.Run.script.users)
