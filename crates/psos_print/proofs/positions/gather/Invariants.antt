use Rattle.std.proofs.Common.{◌≡◌, drop, map}
use Rattle.psos_print.proofs.LinesByUser.{HasSoFar}
use Rattle.psos_print.proofs.positions.gather.Given as goal

abbrev pub invariant-entries : goal.invariant-entries
invariant-entries l = (l.position ≡ l.entry-index) × HasSoFar l.users (map (λ v. v.items) l.lists.items) l.position (drop l.entry-index l.entries) l.entries
