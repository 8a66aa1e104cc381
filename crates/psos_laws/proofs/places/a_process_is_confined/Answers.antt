use Rattle.psos_laws.proofs.ProcessConfinement.{a_process_is_confined}
use Rattle.psos_laws.proofs.places.a_process_is_confined.Goals as goal

pub returns : goal.returns
returns c = a_process_is_confined
