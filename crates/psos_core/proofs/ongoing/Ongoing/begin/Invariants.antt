use Rattle.std.proofs.Common.{◌≡◌, [], length, map, take, replicate}
use Rattle.psos_model.specs.Run.{phase_of}
use Rattle.psos_core.proofs.EventStart.{AreBegun}
use Rattle.psos_core.proofs.ongoing.Ongoing.begin.Given as goal

-- the users so far hold nothing and have no open request, and what they ask first is told, with its phase
abbrev pub invariant-users : goal.invariant-users
invariant-users l =
    (AreBegun l.script l.users l.self.nexts.items l.u)
    × (take l.u l.self.held ≡ replicate l.u [])
    × (length l.self.held ≡ length l.users)
    × (take l.u l.self.traces.items ≡ replicate l.u [])
    × (length l.self.traces.items ≡ length l.users)
    × (take l.u l.self.phases ≡ take l.u (map (phase_of l.script) l.users))
    × (length l.self.phases ≡ length l.users)
