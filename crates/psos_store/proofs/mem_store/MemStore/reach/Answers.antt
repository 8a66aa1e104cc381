use Rattle.std.proofs.Common.{◌<◌, ◌∙◌, ap, arith, length}
use Rattle.std.specs.Prelude.{vec_items}
use Rattle.psos_store.specs.MemoryBlocks.{memory_blocks}
use Rattle.psos_store.proofs.MemoryStore.{memory-push}
use Rattle.psos_store.proofs.mem_store.MemStore.reach.Goals as goal

pub grow-preserved : goal.grow-preserved
grow-preserved c =
    let less : length (vec_items c.grow.self.first) < 4168 = omega (arith, c.grow-test.true, c.len.ensures, c.grow.self.first.ok.0, c.requires) in
    (ap memory_blocks c.push_reserved.ensures.items ∙ memory-push (vec_items c.grow.self.first) less ∙ c.grow.invariant.0, c.grow.invariant.1, c.grow.invariant.2, c.grow.invariant.3)
