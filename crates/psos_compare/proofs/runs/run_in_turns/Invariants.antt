use Rattle.psos_model.specs.Flat.Boot.{boot}
use Rattle.psos_compare.proofs.runs.run_in_turns.Given as goal

abbrev pub ghost-turns : goal.ghost-turns
ghost-turns g a = boot a.self.now.script
