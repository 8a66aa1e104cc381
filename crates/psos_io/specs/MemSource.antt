-- What a source in memory shows.
use Rattle.std.specs.Prelude.{ℕ, List, drop, vec_items}
use Rattle.psos_io.specs.declared.mem_source.MemSource.{MemSource}

-- the bytes that it still holds
abbrev pub source_left : MemSource → List ℕ
source_left s = drop s.at (vec_items s.bytes)

-- how many bytes it gives a call at most
abbrev pub source_most : MemSource → ℕ
source_most s = s.most

-- the calls that fail, counted from 1
abbrev pub source_fails : MemSource → List ℕ
source_fails s = vec_items s.fails

-- how many calls were made
abbrev pub source_calls : MemSource → ℕ
source_calls s = s.calls

-- how many calls failed
abbrev pub source_faults : MemSource → ℕ
source_faults s = s.faults
