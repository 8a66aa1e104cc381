use Rattle.std.proofs.Common.{arith}
use Rattle.std.specs.Prelude.{length}
use Rattle.psos_histories.proofs.Members.{member_below}
use Rattle.psos_locks.proofs.held.Held.number.Goals as goal

pub returns-clause-few : goal.returns-clause-few
returns-clause-few g c = omega (arith, c.self.invariant.1.matched.number, member_below (length g.T.Run.script.users) (g.K.Part.lock c.self.inside.state) c.self.invariant.1.matched.lock, c.requires.script.few_users, c.number.ensures)
