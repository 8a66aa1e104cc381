use Rattle.psos_laws.proofs.SharedAnswers.{shared_kept_by}
use Rattle.psos_laws.proofs.sound.shared_stays_sound.Goals as goal

pub returns : goal.returns
returns c = λ s f u good h. shared_kept_by s good f u h
