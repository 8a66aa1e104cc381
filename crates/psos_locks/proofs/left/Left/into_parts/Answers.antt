use Rattle.psos_locks.proofs.LeftLevels.{are_given}
use Rattle.psos_locks.proofs.left.Left.into_parts.Goals as goal

pub returns-clause-levels : goal.returns-clause-levels
returns-clause-levels g c = are_given c.args.self c.args.procs c.in-Some.procs c.args.stopped c.with.result _ c.in-Some.is c.with.ensures.system c.new.ensures.levels
