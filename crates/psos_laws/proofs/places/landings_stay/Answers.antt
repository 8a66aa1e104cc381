use Rattle.psos_laws.proofs.LastLandings.{landings_stay}
use Rattle.psos_laws.proofs.places.landings_stay.Goals as goal

pub returns : goal.returns
returns c = landings_stay
