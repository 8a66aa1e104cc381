use Rattle.std.proofs.Common.{ap, ◌∙◌}
use Rattle.std.specs.FinMap as map
use Rattle.psos_table.proofs.Rows.{one_gone}
use Rattle.psos_model.proofs.NameOrder.{name_cmp_total, same_name}
use Rattle.psos_model.proofs.names_table.NamesTable.remove.Goals as goal

pub returns : goal.returns
returns c =
    one_gone name_cmp_total same_name c.self.inside.entries.entries c.remove.new.self.entries c.args.name.now c.remove.ensures.updates.0
    ∙ ap (λ m. map.remove m c.args.name.now) c.self.view_is
