use Rattle.psos_agree.proofs.RequestsAgree.{step_agrees}
use Rattle.psos_agree.proofs.laws.requests_agree.Goals as goal

pub returns : goal.returns
returns c = λ s y f u well h sound room. step_agrees s y f u well h sound room
