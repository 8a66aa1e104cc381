use Rattle.std.specs.Prelude.{slice_index}
use Rattle.psos_locks.proofs.threads.run_threads.Given as goal

-- what the ground's cells and ledgers are called
abbrev pub ghosts-run_on-T-Names : goal.ghosts-run_on-T-Names
ghosts-run_on-T-Names g a = record { book = a.ground.book; counts = λ i. slice_index a.ground.counts i; told = a.ground.told; faults = a.ground.faults }

-- the script, and the store's count of faults when the run begins
abbrev pub ghosts-run_on-T-Run : goal.ghosts-run_on-T-Run
ghosts-run_on-T-Run g a = record { script = a.script.now; faults_before = g.B.Store.faults a.levels.pages.store }
