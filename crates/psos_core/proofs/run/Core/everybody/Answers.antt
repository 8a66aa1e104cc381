use Rattle.std.proofs.Common.{arith}
use Rattle.psos_core.proofs.AskedUsers.{numbered_more}
use Rattle.psos_core.proofs.run.Core.everybody.Goals as goal

pub users-preserved : goal.users-preserved
users-preserved g c = (
  numbered_more c.users.users.items c.push.new.self.items c.users.user c.users.invariant.0 c.push.ensures.items,
  omega (arith, c.push.ensures.len, c.users.invariant.1),
)
