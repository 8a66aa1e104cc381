use Rattle.std.proofs.Common.{◌≡◌, [], map, replicate}
use Rattle.psos_print.proofs.positions.no_positions.Given as goal

abbrev pub invariant-users : goal.invariant-users
invariant-users l = map (λ v. v.items) l.lists.items ≡ replicate l.counter []
