use Rattle.psos_script.proofs.LeastLine.{least_fault}
use Rattle.psos_script.proofs.laws.the_least_fault_is_reported.Goals as goal

pub returns : goal.returns
returns c = least_fault
