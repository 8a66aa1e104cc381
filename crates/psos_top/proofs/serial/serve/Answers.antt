use Rattle.std.proofs.Common.{ap, ◌∙◌}
use Rattle.psos_core.specs.System.{system_of}
use Rattle.psos_top.specs.declared.command.Command.TheVariants.{Serial}
use Rattle.psos_top.proofs.RunsLeft.{left_from_boot}
use Rattle.psos_top.proofs.serial.serve.Goals as goal

pub returns-clause-left : goal.returns-clause-left
returns-clause-left g c =
    let core = c.in_ok-core.core in
    let boot = c.in_ok-core.ensures.boot in
    let is = c.serial.ensures in
    let gives = c.into_parts.ensures in
    left_from_boot g.B.Store.faults _ _ Serial core.script _ (system_of core.levels) c.serial.new.self.levels c.serial.new.self.entries c.into_parts.result.1 c.serial.new.self.stopped c.serial.result
    (gives.script ∙ is.script) (ap g.B.Store.faults c.in_ok-core.ensures.store) boot.well_formed boot.booted is.front is.run is.going is.stopped is.cause
    gives.entries gives.levels gives.store gives.store_faults gives.stopped
