use Rattle.std.proofs.Common.{sym, ap, ◌∙◌}
use Rattle.std.specs.Prelude.{is_some}
use Rattle.std.specs.Cmp.{nat_cmp_total}
use Rattle.psos_table.specs.Table.{at}
use Rattle.psos_table.proofs.Rows.{get_rows}
use Rattle.psos_table.proofs.table.Table.has.Goals as goal

pub returns : goal.returns
returns g c = c.contains_key.ensures ∙ ap is_some (sym (get_rows nat_cmp_total c.self.inside.rows.entries c.args.key) ∙ ap (λ m. at m c.args.key) c.self.view_is)
