use Rattle.std.proofs.Common.{ap, arith}
use Rattle.psos_store.specs.Slots.{least_free}
use Rattle.psos_store.proofs.FreeSlots.{least_free-take}
use Rattle.psos_store.proofs.slots.Slots.take.Goals as goal

pub bounds-self-inside-slot : goal.bounds-self-inside-slot
bounds-self-inside-slot c = omega (arith, c.least-slot.ensures.least, c.least-slot.ensures.few, c.if-slot-eq-SLOTS.false)

pub overflow_cast-result : goal.overflow_cast-result
overflow_cast-result c = omega (arith, c.least-slot.ensures.least, c.least-slot.ensures.few)

pub invariant_of-self-2 : goal.invariant_of-self-2
invariant_of-self-2 c =
    omega (arith, c.least-slot.ensures.least, ap least_free c.self.view_is, least_free-take c.self.inside.taken c.least-slot.result)
