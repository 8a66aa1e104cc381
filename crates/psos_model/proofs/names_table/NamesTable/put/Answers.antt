use Rattle.std.proofs.Common.{sym, ap, ◌∙◌}
use Rattle.std.specs.FinMap as map
use Rattle.psos_table.proofs.Rows.{get_rows, one_put, on_err_from}
use Rattle.psos_model.proofs.NameOrder.{name_cmp_total, same_name}
use Rattle.psos_model.proofs.names_table.NamesTable.put.Goals as goal

pub returns-clause-ok : goal.returns-clause-ok
returns-clause-ok c =
    one_put name_cmp_total same_name c.self.inside.entries.entries c.insert.new.self.entries c.args.name c.args.named c.in_ok-insert.ensures.updates.0
    ∙ ap (λ m. map.insert m c.args.name c.args.named) c.self.view_is

pub returns-in_err-insert-clause-absent : goal.returns-in_err-insert-clause-absent
returns-in_err-insert-clause-absent c =
    let gone = ap (λ m. map.get m c.args.name) (sym c.self.view_is) ∙ (get_rows name_cmp_total c.self.inside.entries.entries c.args.name ∙ c.in_err-insert.ensures.absent) in
    on_err_from c.from_residual.result gone
