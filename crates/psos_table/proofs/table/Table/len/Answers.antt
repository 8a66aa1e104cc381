use Rattle.std.proofs.Common.{◌<◌, sym, ap, subst, ◌∙◌}
use Rattle.std.specs.Cmp.{nat_cmp_total}
use Rattle.std.specs.FinMap.{len}
use Rattle.psos_table.proofs.Rows.{len_rows}
use Rattle.psos_table.proofs.table.Table.len.Goals as goal

pub returns-clause-len : goal.returns-clause-len
returns-clause-len g c = c.len.ensures.len ∙ (sym (len_rows nat_cmp_total c.self.inside.rows.entries c.len.ensures.ordered) ∙ ap len c.self.view_is)

pub returns-clause-small : goal.returns-clause-small
returns-clause-small g c = subst (λ n. n < 9223372036854775808) (returns-clause-len g c) c.len.ensures.small
