use Rattle.std.proofs.Common.{sym, ap, ◌∙◌}
use Rattle.std.specs.Cmp.{nat_cmp_total}
use Rattle.psos_table.specs.Table.{at}
use Rattle.psos_table.proofs.Rows.{get_rows}
use Rattle.psos_model.proofs.objects.Objects.get.Goals as goal

pub returns : goal.returns
returns c = c.copied.ensures ∙ (c.get.ensures.value ∙ (sym (get_rows nat_cmp_total c.self.inside.rows.entries c.args.uid) ∙ ap (λ m. at m c.args.uid) c.self.view_is))
