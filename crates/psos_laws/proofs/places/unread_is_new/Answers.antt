use Rattle.psos_laws.proofs.PlacesLaws.{unread_is_new}
use Rattle.psos_laws.proofs.places.unread_is_new.Goals as goal

pub returns : goal.returns
returns c = unread_is_new
