use Rattle.std.proofs.Common.{ap}
use Rattle.psos_store.specs.MemoryBlocks.{memory_blocks}
use Rattle.psos_store.proofs.mem_store.MemStore.new.Goals as goal

pub returns-clause-zero : goal.returns-clause-zero
returns-clause-zero c = ap memory_blocks c.in_ok-with_capacity.ensures.items
