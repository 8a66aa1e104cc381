use Rattle.psos_rows.proofs.OrderRun.{IsAtPlace}
use Rattle.psos_rows.proofs.order.order_lines.Given as goal

abbrev pub invariant-users : goal.invariant-users
invariant-users l = IsAtPlace l.script l.flat l.order l.lines.items l.user-index
