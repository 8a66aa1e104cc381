use Rattle.std.proofs.Common.{ap}
use Rattle.std.specs.Prelude.{◌++◌}
use Rattle.psos_locks.specs.Users.{past_of}
use Rattle.psos_locks.proofs.book.Book.agree.Goals as goal

pub returns-in-None-clause-first : goal.returns-in-None-clause-first
returns-in-None-clause-first g c = (c.args.self.now.entries, ap (λ o. past_of o ++ c.args.self.now.entries) c.in-None.is)
