use Rattle.std.proofs.Common.{ap, ◌∙◌}
use Rattle.std.specs.Cmp.{nat_cmp_total}
use Rattle.std.specs.FinMap.{nat_cmp-IsAntisymmetric}
use Rattle.psos_table.specs.Table.{without}
use Rattle.psos_table.proofs.Rows.{one_gone}
use Rattle.psos_model.proofs.objects.Objects.remove.Goals as goal

pub returns : goal.returns
returns c =
    one_gone nat_cmp_total nat_cmp-IsAntisymmetric c.self.inside.rows.entries c.remove.new.self.entries c.args.uid c.remove.ensures.updates.0
    ∙ ap (λ m. without m c.args.uid) c.self.view_is
