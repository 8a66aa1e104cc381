-- What a sink in memory shows.
use Rattle.std.specs.Prelude.{ℕ, ◌-◌, List, take, vec_items, vec_len}
use Rattle.psos_io.specs.declared.mem_sink.MemSink.{MemSink}

-- the bytes that it took
abbrev pub sink_took : MemSink → List ℕ
sink_took s = take s.at (vec_items s.bytes)

-- how many bytes more fit into the memory that was reserved
abbrev pub sink_room : MemSink → ℕ
sink_room s = vec_len s.bytes - s.at

-- how many bytes it takes a call at most
abbrev pub sink_most : MemSink → ℕ
sink_most s = s.most

-- the calls that fail, counted from 1
abbrev pub sink_fails : MemSink → List ℕ
sink_fails s = vec_items s.fails

-- how many calls were made
abbrev pub sink_calls : MemSink → ℕ
sink_calls s = s.calls

-- how many calls failed
abbrev pub sink_faults : MemSink → ℕ
sink_faults s = s.faults
