use Rattle.std.proofs.Common.{◌≡◌, ◌-◌, ◌≤◌, None}
use Rattle.psos_events.specs.Events.{gone}
use Rattle.psos_core.specs.System.{system_of}
use Rattle.psos_core.specs.Events.{core_state_of}
use Rattle.psos_core.proofs.TurnsRun.{IsDrawn}
use Rattle.psos_core.proofs.AskedUsers.{AreAsked}
use Rattle.psos_core.proofs.run.Core.turns.Given as goal

-- each event so far was that of the user that was drawn, and it is enough to ask these users
abbrev pub invariant-turns : goal.invariant-turns
invariant-turns g l =
    (IsDrawn l.self.script (core_state_of l.self) (record { system = system_of l.initial.self.levels; flat = g.flat }) l.seed l.draws)
    × (l.self.script ≡ l.initial.self.script)
    × (l.self.stopped ≡ None)
    × (l.self.start_faults ≡ l.initial.self.start_faults)
    × (g.B.Store.faults l.initial.self.levels.pages.store ≤ g.B.Store.faults l.self.levels.pages.store)
    × AreAsked l.self.script (core_state_of l.self) l.asked.items

abbrev pub decreases-turns : goal.decreases-turns
decreases-turns g l = 2000000 - gone (core_state_of l.self)
