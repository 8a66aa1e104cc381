use Rattle.std.proofs.Common.{◌≡◌}
use Rattle.psos_procs.proofs.New.{new_boxes}
use Rattle.psos_procs.proofs.procs.Procs.new.Given as goal

-- the mailboxes of the users below this one are made
abbrev pub invariant-users : goal.invariant-users
invariant-users l = l.boxes.items ≡ new_boxes l.fn.users 0 l.number
