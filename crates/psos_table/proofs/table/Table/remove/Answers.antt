use Rattle.std.proofs.Common.{sym, ap, ◌∙◌}
use Rattle.std.specs.Cmp.{nat_cmp_total}
use Rattle.std.specs.FinMap.{nat_cmp-IsAntisymmetric}
use Rattle.psos_table.specs.Table.{at, without}
use Rattle.psos_table.proofs.Rows.{get_rows, one_gone}
use Rattle.psos_table.proofs.table.Table.remove.Goals as goal

pub returns-clause-value : goal.returns-clause-value
returns-clause-value g c = c.remove.ensures.value ∙ (sym (get_rows nat_cmp_total c.self.inside.rows.entries c.args.key) ∙ ap (λ m. at m c.args.key) c.self.view_is)

pub returns-clause-rest : goal.returns-clause-rest
returns-clause-rest g c = one_gone nat_cmp_total nat_cmp-IsAntisymmetric c.self.inside.rows.entries c.remove.new.self.entries c.args.key c.remove.ensures.updates.0 ∙ ap (λ m. without m c.args.key) c.self.view_is
