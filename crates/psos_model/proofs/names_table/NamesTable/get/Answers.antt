use Rattle.std.proofs.Common.{sym, ap, ◌∙◌}
use Rattle.std.specs.FinMap as map
use Rattle.psos_table.proofs.Rows.{get_rows}
use Rattle.psos_model.proofs.NameOrder.{name_cmp_total}
use Rattle.psos_model.proofs.names_table.NamesTable.get.Goals as goal

pub returns : goal.returns
returns c = c.copied.ensures ∙ (c.get.ensures.value ∙ (sym (get_rows name_cmp_total c.self.inside.entries.entries c.args.name.now) ∙ ap (λ m. map.get m c.args.name.now) c.self.view_is))
