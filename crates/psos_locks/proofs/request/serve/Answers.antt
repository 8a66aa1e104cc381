use Rattle.psos_locks.specs.Grips.{grips_of}
use Rattle.psos_locks.proofs.Working.{begins}
use Rattle.psos_locks.proofs.request.serve.Goals as goal

pub walk-ran-requires-clause-work : goal.walk-ran-requires-clause-work
walk-ran-requires-clause-work g c =
    begins g.T.Run.script c.requires.well_formed c.own.inside.member c.own.inside.private c.args.request.now (grips_of c.empty-hands.result) c.clear.new.self c.own.invariant.own_is c.empty-hands.ensures c.clear.ensures
