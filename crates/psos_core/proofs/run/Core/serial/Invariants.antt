use Rattle.psos_core.specs.System.{system_of}
use Rattle.psos_core.proofs.run.Core.serial.Given as goal

abbrev pub ghost-serve_phases : goal.ghost-serve_phases
ghost-serve_phases g a = record { system = system_of a.levels.now; flat = g.flat }
