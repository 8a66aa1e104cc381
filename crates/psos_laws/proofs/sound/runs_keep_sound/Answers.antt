use Rattle.psos_laws.proofs.SoundRuns.{runs_kept}
use Rattle.psos_laws.proofs.sound.runs_keep_sound.Goals as goal

pub returns : goal.returns
returns c = runs_kept
