use Rattle.std.proofs.Common.{◌≡◌, length}
use Rattle.psos_core.proofs.ongoing.Ongoing.new.Given as goal

-- each user so far has its places
abbrev pub invariant-users : goal.invariant-users
invariant-users l = (length l.traces.items ≡ l._me-index) × (length l.nexts.items ≡ l._me-index)
