use Rattle.std.proofs.Common.{◌≡◌}
use Rattle.std.specs.Prelude.{vec_len, vec_capacity}
use Rattle.psos_locks.proofs.opening.new_rooms.Given as goal

-- so many of them are there, and room for all
abbrev pub invariant-users : goal.invariant-users
invariant-users g l = (vec_len l.rooms ≡ l._number) × (vec_capacity l.rooms ≡ l.fn.users)
