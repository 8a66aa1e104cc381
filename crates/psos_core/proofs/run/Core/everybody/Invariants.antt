use Rattle.std.proofs.Common.{◌≡◌, length}
use Rattle.std.specs.List.{range_with_len}
use Rattle.psos_core.proofs.run.Core.everybody.Given as goal

-- the users so far
abbrev pub invariant-users : goal.invariant-users
invariant-users g l = (l.users.items ≡ range_with_len 0 l.user) × (length l.users.items ≡ l.user)
