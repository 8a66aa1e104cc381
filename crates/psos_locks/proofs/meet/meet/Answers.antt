use Rattle.std.proofs.Common.{arith}
use Rattle.psos_locks.proofs.Meeting.{may_meet, met_more, all_met, are_users}
use Rattle.psos_locks.proofs.meet.meet.Goals as goal

pub meet_all-requires-clause-ready : goal.meet_all-requires-clause-ready
meet_all-requires-clause-ready g c =
    may_meet c.args.users.now c.users.i c.users.users c.users.invariant g.T.Run.script c.args.next c.requires.users c.requires.through (omega (arith, c.users.invariant.all, c.users-test.true))

pub users-preserved : goal.users-preserved
users-preserved g c = met_more c.args.users.now c.users.i c.users.users c.users.invariant c.meet_all.new.users c.meet_all.ensures

pub returns-clause-users : goal.returns-clause-users
returns-clause-users g c = are_users c.args.users.now c.users.i c.users.users c.users.invariant g.T.Run.script c.requires.users

pub returns-clause-met : goal.returns-clause-met
returns-clause-met g c = all_met c.args.users.now c.users.i c.users.users c.users.invariant (omega (arith, c.users.invariant.all, c.users-test.false))
