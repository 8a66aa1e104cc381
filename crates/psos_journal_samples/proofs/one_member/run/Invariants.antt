use Rattle.std.specs.Prelude.{slice_index}
use Rattle.psos_journal_samples.proofs.one_member.run.Given as goal

-- what the ground's cells and ledgers are called
abbrev pub ghosts-stamped : goal.ghosts-stamped
ghosts-stamped a = record { book = a.ground.book; counts = λ i. slice_index a.ground.counts i; told = a.ground.told; faults = a.ground.faults }
