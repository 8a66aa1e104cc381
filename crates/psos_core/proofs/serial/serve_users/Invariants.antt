use Rattle.std.proofs.Common.{◌≡◌, ◌≤◌, length}
use Rattle.psos_core.specs.System.{system_of}
use Rattle.psos_core.specs.UnderWay.{AreCounted, HasServed}
use Rattle.psos_core.proofs.serial.serve_users.Given as goal

abbrev pub ghost-serve_user : goal.ghost-serve_user
ghost-serve_user g a = g.start

abbrev pub invariant-users : goal.invariant-users
invariant-users g l =
    (HasServed l.script g.start.system g.start.flat (system_of l.levels) l.entries l.p l.u)
    × (g.B.Store.faults l.initial.levels.pages.store ≤ g.B.Store.faults l.levels.pages.store)
    × (length l.levels.privates.value.items ≡ length l.initial.levels.privates.value.items)
    × AreCounted l.script l.p l.u l.counts
