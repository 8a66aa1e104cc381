use Rattle.psos_laws.proofs.SoundRuns.{answers_kept}
use Rattle.psos_laws.proofs.sound.answers_keep_sound.Goals as goal

pub returns : goal.returns
returns c = answers_kept
