use Rattle.psos_locks.proofs.WholeRuns.{has_run}
use Rattle.psos_locks.proofs.laws.ends_are_runs.Goals as goal

pub returns : goal.returns
returns g c s users parts = has_run g.B.Store.faults s users parts
