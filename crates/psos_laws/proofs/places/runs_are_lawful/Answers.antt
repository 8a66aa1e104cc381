use Rattle.psos_laws.proofs.PlacesRuns.{runs_are_lawful}
use Rattle.psos_laws.proofs.places.runs_are_lawful.Goals as goal

pub returns : goal.returns
returns c = runs_are_lawful
