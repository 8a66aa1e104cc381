-- Why a call of a level, or a run, may stop. States docs/levels.md, "Levels", and docs/program.md, "Statuses".
use Rattle.std.specs.Prelude.{◌≡◌, ◌≤◌, ◌⊎◌, ℕ, Option, Some, None, Result, IfErr, IsTrue}
use Rattle.psos_io.specs.Causes.{Rose}
use Rattle.psos_calls.specs.declared.level.Level.TheVariants.{L7}
use Rattle.psos_calls.specs.Levels.Calls.{LevelCall}
use Rattle.psos_calls.specs.declared.level_fault.LevelFault.{LevelFault}
use Rattle.psos_calls.specs.declared.level_fault.LevelFault.TheVariants as faults
use Rattle.psos_calls.specs.declared.next.Next.{Next}
use Rattle.psos_calls.specs.Levels.{level_of, adds_row}
use Rattle.psos_model.specs.Events.{Event, Take, Call, Close}
use Rattle.psos_journal.specs.declared.stop_cause.StopCause.{StopCause}
use Rattle.psos_journal.specs.declared.stop_cause.StopCause.TheVariants as stops
use Rattle.psos_core.specs.Plans.{closes}

-- ---- what the store's count says

-- the store's count never falls, and rose where the store is named as the cause
pub record IsLicensed {A : Type 0} (before now : ℕ) (result : Result A LevelFault) : Type 0 where
  pub later : before ≤ now
  pub store : IfErr result (λ fault. fault ≡ faults.Store → Rose before now)

-- the same of a run
pub record MayStop {T : Type 0} (before now : ℕ) (result : Result T StopCause) : Type 0 where
  pub later : before ≤ now
  pub store : IfErr result (λ cause. cause ≡ stops.Store → Rose before now)

-- ---- what may fault, and why

-- memory may be wanting where a call adds a row, and the store may fail at level 7
abbrev pub CanFault : LevelCall → LevelFault → Type 0
CanFault call (faults.Memory error) = IsTrue (adds_row call)
CanFault call faults.Store = level_of call ≡ L7

-- the same where the fault stops a run
abbrev pub CanStop : LevelCall → StopCause → Type 0
CanStop call stops.Memory = IsTrue (adds_row call)
CanStop call stops.Store = level_of call ≡ L7

-- why an event may stop, after which its user's plan does this: a take never does; a call where it may fault, and for want of memory where its request then closes; and a close for want of memory
abbrev pub CanStopAt : Option Event → Option Next → StopCause → Type 0
CanStopAt (Some (Take lock)) then cause = ⊥
CanStopAt (Some (Call call)) then cause = CanStop call cause ⊎ ((cause ≡ stops.Memory) × IsTrue (closes then))
CanStopAt (Some (Close reply effect)) then cause = cause ≡ stops.Memory
CanStopAt None then cause = ⊥
