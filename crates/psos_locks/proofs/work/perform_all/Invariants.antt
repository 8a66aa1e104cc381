use Rattle.std.proofs.Common.{◌-◌, length}
use Rattle.psos_journal.specs.Views.{list_of}
use Rattle.psos_locks.proofs.PhaseWork.{GoesOn}
use Rattle.psos_locks.proofs.work.perform_all.Given as goal

abbrev pub invariant-requests : goal.invariant-requests
invariant-requests g l = GoesOn l.fn.user l.user

-- a user has few entries
abbrev pub decreases-requests : goal.decreases-requests
decreases-requests g l = 32769 - length (list_of l.user.who.side)
