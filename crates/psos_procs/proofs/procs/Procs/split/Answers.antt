use Rattle.std.proofs.Common.{length, ap, ◌∙◌}
use Rattle.psos_table.specs.Table.{size}
use Rattle.psos_procs.proofs.Parts.{boxes-size}
use Rattle.psos_procs.proofs.procs.Procs.split.Goals as goal

pub returns-clause-count : goal.returns-clause-count
returns-clause-count c = boxes-size (length c.self.inside.boxes.items) 0 c.self.inside.boxes.items c.self.invariant.each ∙ ap size c.self.view_is
