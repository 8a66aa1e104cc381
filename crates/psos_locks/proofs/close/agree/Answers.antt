use Rattle.psos_locks.proofs.Closing.{agreed_none, agreed_next, agreed_all, found_there}
use Rattle.psos_locks.proofs.close.agree.Goals as goal

pub users-init : goal.users-init
users-init g c = agreed_none c.args.receipts.now c.args.book.now

pub users-preserved : goal.users-preserved
users-preserved g c =
    agreed_next c.users.receipt-index c.args.receipts.now c.args.book.now c.users.book c.agree.new.self c.receipt-item.result c.users.invariant (found_there c.args.receipts.now c.users.receipt-index c.receipt-item.result c.users-test.true c.receipt-item.is)
    c.agree.ensures.same c.agree.ensures.first

pub returns-clause-same : goal.returns-clause-same
returns-clause-same g c = c.users.invariant.same

pub returns-clause-first : goal.returns-clause-first
returns-clause-first g c = agreed_all c.users.receipt-index c.args.receipts.now c.args.book.now c.users.book c.users.invariant c.users-test.false
