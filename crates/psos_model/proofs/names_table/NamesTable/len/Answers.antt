use Rattle.std.proofs.Common.{sym, ap, ◌∙◌}
use Rattle.std.specs.FinMap as map
use Rattle.psos_table.proofs.Rows.{len_rows}
use Rattle.psos_model.proofs.NameOrder.{name_cmp_total}
use Rattle.psos_model.proofs.names_table.NamesTable.len.Goals as goal

pub returns : goal.returns
returns c = c.len.ensures.len ∙ (sym (len_rows name_cmp_total c.self.inside.entries.entries c.len.ensures.ordered) ∙ ap map.len c.self.view_is)
