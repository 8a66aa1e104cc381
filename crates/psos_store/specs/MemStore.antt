-- What a store in memory shows. States docs/levels.md, "The backing store".
use Rattle.std.specs.Prelude.{ℕ, List, vec_items}
use Rattle.psos_store.specs.declared.mem_store.MemStore.{MemStore}
use Rattle.psos_store.specs.MemoryBlocks.{memory_blocks}

-- the blocks that it holds
abbrev pub store_blocks : MemStore → List (List ℕ)
store_blocks s = memory_blocks (vec_items s.first)

-- the calls that fail, counted from 1
abbrev pub store_fails : MemStore → List ℕ
store_fails s = vec_items s.fails

-- how many calls were made
abbrev pub store_calls : MemStore → ℕ
store_calls s = s.calls

-- how many calls failed
abbrev pub store_faults : MemStore → ℕ
store_faults s = s.faults
