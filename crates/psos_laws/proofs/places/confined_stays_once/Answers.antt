use Rattle.psos_laws.proofs.PlacesLaws.{confined_stays_once}
use Rattle.psos_laws.proofs.places.confined_stays_once.Goals as goal

pub returns : goal.returns
returns c = confined_stays_once
