use Rattle.psos_model.specs.Flat.Boot.{boot}
use Rattle.psos_top.proofs.load.run_made.Given as goal

abbrev pub ghost-turns : goal.ghost-turns
ghost-turns g a = boot a.self.now.script
