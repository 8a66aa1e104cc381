use Rattle.std.proofs.Common.{◌≡◌, ◌-◌, ◌≤◌, length}
use Rattle.psos_core.specs.System.{system_of}
use Rattle.psos_core.specs.UnderWay.{HasServed}
use Rattle.psos_core.proofs.serial.serve_user.Given as goal

abbrev pub invariant-turns : goal.invariant-turns
invariant-turns g l =
    (HasServed l.script g.start.system g.start.flat (system_of l.levels) l.entries l.p l.u)
    × (g.B.Store.faults l.initial.levels.pages.store ≤ g.B.Store.faults l.levels.pages.store)
    × (length l.levels.privates.value.items ≡ length l.initial.levels.privates.value.items)

-- an order has few requests
abbrev pub decreases-turns : goal.decreases-turns
decreases-turns g l = 32768 - length l.entries
