use Rattle.std.proofs.Common.{arith}
use Rattle.psos_store.proofs.FreeSlots.{least_free-give}
use Rattle.psos_store.proofs.slots.Slots.give.Goals as goal

pub invariant_of-self : goal.invariant_of-self
invariant_of-self c =
    let h = c.min-self-inside.ensures in
    least_free-give c.self.inside.taken c.args.slot c.min-self-inside.result (omega (arith, h, c.self.invariant)) (omega (arith, h))
