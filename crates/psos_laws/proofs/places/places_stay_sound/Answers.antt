use Rattle.psos_laws.proofs.PlaceGuards.{places_kept}
use Rattle.psos_laws.proofs.places.places_stay_sound.Goals as goal

pub returns : goal.returns
returns c = places_kept
