use Rattle.std.proofs.Common.{◌≡◌, ◌≤◌, ◌++◌, length, drop}
use Rattle.std.specs.List.{filter}
use Rattle.psos_model.specs.Events.{is_enabled}
use Rattle.psos_core.specs.Events.{core_state_of}
use Rattle.psos_core.proofs.run.Core.enabled_among.Given as goal

-- those found so far, and those of the users that are left, are all that may go on
abbrev pub invariant-users : goal.invariant-users
invariant-users g l =
    (l.among.items ++ filter (is_enabled l.self.script (core_state_of l.self)) (drop l.user-index l.users) ≡ filter (is_enabled l.self.script (core_state_of l.self)) l.users)
    × (length l.among.items ≤ l.user-index)
