use Rattle.std.proofs.Common.{◌≡◌, None}
use Rattle.std.specs.Prelude.{replicate, vec_len, vec_capacity}
use Rattle.psos_locks.proofs.opening.no_receipts.Given as goal

-- so many of them are there, and room for all
abbrev pub invariant-users : goal.invariant-users
invariant-users g l = (l.receipts.items ≡ replicate l._number None) × (vec_len l.receipts ≡ l._number) × (vec_capacity l.receipts ≡ l.fn.users)
