use Rattle.psos_agree.proofs.RequestsAgree.{all_agree}
use Rattle.psos_agree.proofs.laws.plans_run.Goals as goal

pub returns : goal.returns
returns c = λ request. all_agree request
