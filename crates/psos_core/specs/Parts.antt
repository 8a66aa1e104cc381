-- What a run leaves. States docs/levels.md, "Levels".
use Rattle.std.specs.Prelude.{Option, Some, None}
use Rattle.psos_journal.specs.declared.stop_cause.StopCause.{StopCause}

-- the levels are given where the run was not stopped, and the store where it was
abbrev pub levels_of_stop : {X : Type 0} → Option StopCause → X → Option X
levels_of_stop None levels = Some levels
levels_of_stop (Some cause) levels = None

abbrev pub store_of_stop : {X : Type 0} → Option StopCause → X → Option X
store_of_stop None store = None
store_of_stop (Some cause) store = Some store
