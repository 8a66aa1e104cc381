use Rattle.psos_locks.proofs.ListPlaces.{popped}
use Rattle.psos_locks.proofs.LeftLevels.{as_it_was, one_more_ended}
use Rattle.psos_locks.proofs.ending.+end_users.Goals as goal

pub returns-clause-ended : goal.returns-clause-ended
returns-clause-ended g t c =
    let front = c.pop.new.self.items in
    let whole = popped c.args.users.now.items front c.pop.result c.in-Some.user c.pop.ensures.items c.in-Some.is in
    let one = c.end_user-private.ensures in
    one_more_ended g.T.Run.script c.args.book.now c.end_user-private.new.book c.end_users.new.book c.end_users.new.book c.args.users.now.items front c.in-Some.user whole one.book c.end_users.ensures.book
    (as_it_was c.end_users.new.book) one.met one.told one.going c.end_users.ensures.ended
