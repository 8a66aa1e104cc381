use Rattle.std.proofs.Common.{◌≤◌, ◌∙◌, sym, ap, length, arith}
use Rattle.psos_limits.specs.declared.TheConstants.{SLOTS}
use Rattle.psos_store.specs.Slots.{least_free}
use Rattle.psos_store.proofs.FreeSlots.{least_free-free, least_free-taken, few_free}
use Rattle.psos_store.proofs.slots.Slots.least.Goals as goal

pub taken-preserved : goal.taken-preserved
taken-preserved c = least_free-taken c.self.inside.taken c.taken.slot c.taken.invariant c.if-self-slot.true

pub returns-else-self-slot : goal.returns-else-self-slot
returns-else-self-slot c =
    let behind : least_free c.self.inside.taken ≤ c.taken.slot = least_free-free c.self.inside.taken c.taken.slot (omega (arith, c.taken-test.true, c.self.told)) c.if-self-slot.false in
    let all : least_free c.args.self.now ≤ SLOTS = few_free c.args.self.now (ap length (sym c.self.view_is) ∙ c.self.told) in
    record { least = omega (arith, c.taken.invariant, behind) ∙ ap least_free c.self.view_is; few = all }

pub returns-after-taken : goal.returns-after-taken
returns-after-taken c =
    let all : least_free c.args.self.now ≤ SLOTS = few_free c.args.self.now (ap length (sym c.self.view_is) ∙ c.self.told) in
    record { least = omega (arith, c.taken.invariant, c.taken-test.false, all, ap least_free c.self.view_is); few = all }
