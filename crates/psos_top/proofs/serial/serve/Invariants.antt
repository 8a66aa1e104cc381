use Rattle.psos_model.specs.Flat.Boot.{boot}
use Rattle.psos_top.proofs.serial.serve.Given as goal

abbrev pub ghost-serial : goal.ghost-serial
ghost-serial g a = boot a.self.now.script
