use Rattle.std.proofs.Common.{◌-◌, ◌≤◌}
use Rattle.psos_limits.specs.declared.TheConstants.{SLOTS}
use Rattle.psos_store.specs.Slots.{least_free}
use Rattle.psos_store.proofs.slots.Slots.least.Given as goal

-- all slots before this one are taken
abbrev pub invariant-taken : goal.invariant-taken
invariant-taken l = l.slot ≤ least_free l.self-inside.taken

abbrev pub decreases-taken : goal.decreases-taken
decreases-taken l = SLOTS - l.slot
