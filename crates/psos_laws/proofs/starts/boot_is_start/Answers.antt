use Rattle.psos_laws.proofs.BootSoundness.{boot_start}
use Rattle.psos_laws.proofs.starts.boot_is_start.Goals as goal

pub returns : goal.returns
returns c = boot_start
