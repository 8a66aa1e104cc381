use Rattle.std.proofs.Common.{sym, ◌∙◌}
use Rattle.psos_table.proofs.Tables.{edit_to}
use Rattle.psos_table.proofs.table.Table.edit.Goals as goal

pub returns-in-Some : goal.returns-in-Some
returns-in-Some g c =
    c.get_mut.follows.holds c.apply.new.row
    ∙ edit_to c.args.self.now c.args.key (g.C.Change.change c.args.change.now) c.in-Some.row.now c.apply.new.row (sym c.in-Some.ensures.value) c.apply.ensures
