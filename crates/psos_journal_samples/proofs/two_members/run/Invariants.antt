use Rattle.std.specs.Prelude.{slice_index}
use Rattle.psos_journal_samples.proofs.two_members.run.Given as goal

-- what the ground's cells and ledgers are called
abbrev pub ghosts-listed : goal.ghosts-listed
ghosts-listed a = record { book = a.ground.book; counts = λ i. slice_index a.ground.counts i; told = a.ground.told; faults = a.ground.faults }
