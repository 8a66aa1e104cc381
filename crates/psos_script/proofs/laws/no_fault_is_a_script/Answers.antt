use Rattle.psos_script.proofs.Outcome.{no_fault}
use Rattle.psos_script.proofs.laws.no_fault_is_a_script.Goals as goal

pub returns : goal.returns
returns c = no_fault
