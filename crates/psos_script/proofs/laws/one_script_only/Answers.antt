use Rattle.psos_script.proofs.Outcome.{one_script}
use Rattle.psos_script.proofs.laws.one_script_only.Goals as goal

pub returns : goal.returns
returns c = one_script
