use Rattle.psos_locks.proofs.Phasing.{are_through, begun_first, begun_next}
use Rattle.psos_locks.proofs.phases.begin.Goals as goal

pub meet-requires-clause-through : goal.meet-requires-clause-through
meet-requires-clause-through g c = are_through g.T.Run.script c.args.p c.args.users.now c.if-p-gt0.true c.requires

pub returns-then-p-gt0 : goal.returns-then-p-gt0
returns-then-p-gt0 g c = begun_next g.T.Run.script c.args.p c.args.users.now c.meet.new.users c.if-p-gt0.true c.requires c.meet.ensures.users c.meet.ensures.met

pub returns-else-p-gt0 : goal.returns-else-p-gt0
returns-else-p-gt0 g c = begun_first g.T.Run.script c.args.p c.args.users.now c.if-p-gt0.false c.requires
