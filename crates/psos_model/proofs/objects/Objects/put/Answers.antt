use Rattle.std.proofs.Common.{sym, ap, ◌∙◌}
use Rattle.std.specs.Cmp.{nat_cmp_total}
use Rattle.std.specs.FinMap.{nat_cmp-IsAntisymmetric}
use Rattle.psos_table.specs.Table.{at, put}
use Rattle.psos_table.proofs.Rows.{get_rows, one_put, on_err_from}
use Rattle.psos_model.proofs.objects.Objects.put.Goals as goal

pub returns-clause-ok : goal.returns-clause-ok
returns-clause-ok c =
    one_put nat_cmp_total nat_cmp-IsAntisymmetric c.self.inside.rows.entries c.insert.new.self.entries c.args.uid c.args.object c.in_ok-insert.ensures.updates.0
    ∙ ap (λ m. put m c.args.uid c.args.object) c.self.view_is

pub returns-in_err-insert-clause-absent : goal.returns-in_err-insert-clause-absent
returns-in_err-insert-clause-absent c =
    let gone = ap (λ m. at m c.args.uid) (sym c.self.view_is) ∙ (get_rows nat_cmp_total c.self.inside.rows.entries c.args.uid ∙ c.in_err-insert.ensures.absent) in
    on_err_from c.from_residual.result gone
