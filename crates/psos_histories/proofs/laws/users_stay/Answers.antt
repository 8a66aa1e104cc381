use Rattle.psos_histories.proofs.OwnParts.{users_stay}
use Rattle.psos_histories.proofs.laws.users_stay.Goals as goal

pub returns : goal.returns
returns c = users_stay
