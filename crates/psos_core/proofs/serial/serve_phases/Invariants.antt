use Rattle.std.proofs.Common.{◌≡◌, ◌≤◌, length}
use Rattle.psos_core.specs.System.{system_of}
use Rattle.psos_core.specs.UnderWay.{AreCounted, HasServed}
use Rattle.psos_core.proofs.serial.serve_phases.Given as goal

abbrev pub ghost-serve_users : goal.ghost-serve_users
ghost-serve_users g a = g.start

abbrev pub invariant-phases : goal.invariant-phases
invariant-phases g l =
    (HasServed l.script g.start.system g.start.flat (system_of l.levels) l.entries l.p 0)
    × (g.B.Store.faults l.initial.levels.pages.store ≤ g.B.Store.faults l.levels.pages.store)
    × (length l.levels.privates.value.items ≡ length l.initial.levels.privates.value.items)
    × AreCounted l.script l.p 0 l.counts
