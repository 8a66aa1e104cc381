use Rattle.psos_laws.proofs.PlacesLaws.{landings_are_all}
use Rattle.psos_laws.proofs.places.landings_are_all.Goals as goal

pub returns : goal.returns
returns c = landings_are_all
