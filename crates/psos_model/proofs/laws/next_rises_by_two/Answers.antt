use Rattle.psos_model.proofs.AnswerBounds.{never_falls, at_most_two}
use Rattle.psos_model.proofs.laws.next_rises_by_two.Goals as goal

pub returns : goal.returns
returns c s f u = (never_falls s f u, at_most_two s f u)
