use Rattle.psos_top.proofs.CommandEnds.{ends_since, store_since}
use Rattle.psos_top.proofs.run.run_call.Goals as goal

pub returns-clause-ends : goal.returns-clause-ends
returns-clause-ends g c = ends_since _ _ _ c.end.result _ _ c.faults-start.ensures (c.end.ensures.ends _ c.serve-ran.ensures.read)

pub returns-clause-store : goal.returns-clause-store
returns-clause-store g c = store_since _ _ _ c.end.result _ _ c.faults-start.ensures (c.end.ensures.store _ c.serve-ran.ensures.read)
