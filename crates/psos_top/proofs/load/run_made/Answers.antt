use Rattle.std.proofs.Common.{ap, ◌∙◌}
use Rattle.psos_core.specs.System.{system_of}
use Rattle.psos_top.specs.declared.command.Command.TheVariants.{Turns}
use Rattle.psos_top.proofs.RunsLeft.{left_from_boot}
use Rattle.psos_top.proofs.load.run_made.Goals as goal

pub returns-clause-left : goal.returns-clause-left
returns-clause-left g c =
    let core = c.in_ok-core.core in
    let boot = c.in_ok-core.ensures.boot in
    let is = c.turns.ensures in
    let gives = c.into_parts.ensures in
    left_from_boot g.B.Store.faults _ _ (Turns c.args.seed) core.script _ (system_of core.levels) c.turns.new.self.levels c.turns.new.self.entries c.into_parts.result.1 c.turns.new.self.stopped c.turns.result
    (gives.script ∙ is.script) (ap g.B.Store.faults c.in_ok-core.ensures.store) boot.well_formed boot.booted is.front is.run is.going is.stopped is.cause
    gives.entries gives.levels gives.store gives.store_faults gives.stopped
