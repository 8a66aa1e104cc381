use Rattle.psos_agree.proofs.BootStands as stands
use Rattle.psos_agree.proofs.laws.boot_stands.Goals as goal

pub returns : goal.returns
returns c = stands.boot_stands
