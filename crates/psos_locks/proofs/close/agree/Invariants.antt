use Rattle.psos_locks.proofs.Closing.{Agreed}
use Rattle.psos_locks.proofs.close.agree.Given as goal

abbrev pub invariant-users : goal.invariant-users
invariant-users g l = Agreed l.receipt-index l.receipts l.fn.book l.book
