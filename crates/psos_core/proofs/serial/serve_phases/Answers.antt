use Rattle.std.proofs.Common.{List, refl, sym, arith, subst}
use Rattle.psos_calls.specs.declared.entry.Entry.{Entry}
use Rattle.psos_core.specs.System.{system_of}
use Rattle.psos_core.specs.UnderWay.{HasServed}
use Rattle.psos_core.proofs.PhaseCounts.{counted_first}
use Rattle.psos_core.proofs.SerialRun.{at_start, at_end, front_so_far, settled_so_far}
use Rattle.psos_core.proofs.serial.serve_phases.Goals as goal

pub phases-init : goal.phases-init
phases-init g c =
    let s = c.args.script.now in
    let H : List Entry → Type 0 = λ es. HasServed s g.start.system g.start.flat (system_of c.args.levels.now) es 0 0 in
    (subst H (sym c.requires.1.1.1) (at_start s g.start.system g.start.flat (system_of c.args.levels.now) c.requires.1.0 c.requires.1.1.0), omega arith, refl, counted_first s c.requires.1.0.well_formed.few_users)

pub returns-clause-run : goal.returns-clause-run
returns-clause-run g c =
    at_end c.args.script.now g.start.system g.start.flat (system_of c.phases.levels) c.phases.entries c.phases.p c.requires.1.0 (grind (arith)) c.phases.invariant.0

pub returns-clause-front : goal.returns-clause-front
returns-clause-front g c = front_so_far c.args.script.now g.start.system g.start.flat (system_of c.phases.levels) c.phases.entries c.phases.p 0 c.requires.1.0 c.phases.invariant.0

pub returns-clause-settled : goal.returns-clause-settled
returns-clause-settled g c = settled_so_far c.args.script.now g.start.system g.start.flat (system_of c.phases.levels) c.phases.entries c.phases.p 0 c.phases.invariant.0
