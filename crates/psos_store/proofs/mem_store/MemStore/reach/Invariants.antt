use Rattle.std.proofs.Common.{◌≡◌, ◌-◌, length}
use Rattle.std.specs.Prelude.{vec_items}
use Rattle.psos_store.specs.MemoryBlocks.{memory_blocks}
use Rattle.psos_store.proofs.mem_store.MemStore.reach.Given as goal

-- the blocks stay as they are
abbrev pub invariant-grow : goal.invariant-grow
invariant-grow l =
    (memory_blocks (vec_items l.self.first) ≡ memory_blocks (vec_items l.initial.self.first))
    × (l.self.fails ≡ l.initial.self.fails) × (l.self.calls ≡ l.initial.self.calls) × (l.self.faults ≡ l.initial.self.faults)

abbrev pub decreases-grow : goal.decreases-grow
decreases-grow l = l.count - length (vec_items l.self.first)
