use Rattle.std.proofs.Common.{sym, arith}
use Rattle.psos_print.proofs.GrowingLists.{noted}
use Rattle.psos_print.proofs.positions.note.Goals as goal

pub returns-in_ok-push : goal.returns-in_ok-push
returns-in_ok-push c = noted (λ l. l.items) c.args.lists.now.items c.args.user c.args.position c.in-Some.list.now c.push.new.self (grind arith) (sym c.in-Some.ensures.value) c.in_ok-push.ensures.items
