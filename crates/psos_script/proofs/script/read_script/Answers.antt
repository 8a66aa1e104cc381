use Rattle.psos_script.proofs.Outcome.{found, fault, none}
use Rattle.psos_script.proofs.script.read_script.Goals as goal

pub returns-clause-found : goal.returns-clause-found
returns-clause-found c = found c.args.bytes.now c.script.result c.script.ensures

pub returns-clause-fault : goal.returns-clause-fault
returns-clause-fault c = fault c.args.bytes.now c.script.result c.script.ensures

pub returns-clause-none : goal.returns-clause-none
returns-clause-none c = none c.args.bytes.now c.script.result c.script.ensures
