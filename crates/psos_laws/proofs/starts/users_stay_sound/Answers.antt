use Rattle.psos_laws.proofs.UserSoundness.{users_kept}
use Rattle.psos_laws.proofs.starts.users_stay_sound.Goals as goal

pub returns : goal.returns
returns c = users_kept
