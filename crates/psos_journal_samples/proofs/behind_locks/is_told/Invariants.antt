use Rattle.std.specs.Prelude.{slice_index}
use Rattle.psos_journal_samples.proofs.behind_locks.is_told.Given as goal

-- what the ground's cells and ledgers are called
abbrev pub ghosts-beside : goal.ghosts-beside
ghosts-beside g a = record { book = a.ground.book; counts = λ i. slice_index a.ground.counts i; told = a.ground.told; faults = a.ground.faults }
