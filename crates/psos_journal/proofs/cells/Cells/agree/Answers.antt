use Rattle.std.proofs.Common.{◌≤◌, length, arith, subst}
use mathlib.Core.List.{IsPrefix}
use Rattle.psos_journal.specs.Cells.{entries_in}
use Rattle.psos_journal.proofs.Beginnings.{entries_in_begins, whole_has}
use Rattle.psos_journal.proofs.cells.Cells.agree.Goals as goal

pub returns-clause-agrees : goal.returns-clause-agrees
returns-clause-agrees g c =
    let before = c.both.inside.seen.log in
    let after = c.look.new.seen.log in
    let less : length (entries_in after) ≤ length c.args.past.now = omega (arith, c.look.ensures.all, c.self.view_is, c.requires) in
    let more = entries_in_begins before after c.look.ensures.seen.1 in
    whole_has c.args.past.now c.args.other.now c.joined-both.result (entries_in after) c.joined-both.ensures.this c.joined-both.ensures.that (subst (λ l. IsPrefix l (entries_in after)) c.both.view_is more) less
