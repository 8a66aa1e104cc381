use Rattle.psos_laws.proofs.PlacesRuns.{confined_stays}
use Rattle.psos_laws.proofs.places.confined_stays.Goals as goal

pub returns : goal.returns
returns c = confined_stays
