-- Faults of the store that a run has counted. States docs/levels.md, "Journal", and docs/program.md, "Statuses".
use Rattle.std.specs.Prelude.{ℕ, ◌<◌, ◌≤◌, Option, Some, ◌≡◌}
use Rattle.psos_io.specs.Causes.{Rose}
use Rattle.psos_journal.specs.declared.stop_cause.StopCause.{StopCause}
use Rattle.psos_journal.specs.declared.stop_cause.StopCause.TheVariants.{Store}

-- the store's count was this when the run began and is that now; it never falls, and where a fault was counted it rose
pub record IsCounted (before now counted : ℕ) : Type 0 where
  pub later : before ≤ now
  pub rose : 0 < counted → Rose before now

-- a journal that was stopped for the store has a fault on its side of the ledger
abbrev pub IsShared : Option StopCause → ℕ → Type 0
IsShared stopped counted = stopped ≡ Some Store → 0 < counted
