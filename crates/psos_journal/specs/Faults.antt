-- Why an entry was not begun. It states docs/levels.md, "Journal".
use Rattle.std.specs.Prelude.{◌≡◌}
use Rattle.std.specs.declared.option.Option.{Option}
use Rattle.std.specs.declared.option.Option.TheVariants.{None, Some}
use Rattle.psos_journal.specs.declared.stop_cause.StopCause.{StopCause}
use Rattle.psos_journal.specs.declared.begin_fault.BeginFault.{BeginFault}
use Rattle.psos_journal.specs.declared.begin_fault.BeginFault.TheVariants.{Stopped, Memory}

-- the entry is handed back, and the fault is the first cause of a stop exactly where there is one
abbrev pub IsFault : {A : Type 0} → Option StopCause → A → BeginFault A → Type 0
IsFault stopped entry (Stopped cause back) = (stopped ≡ Some cause) × (back ≡ entry)
IsFault stopped entry (Memory fault back) = (stopped ≡ None) × (back ≡ entry)
