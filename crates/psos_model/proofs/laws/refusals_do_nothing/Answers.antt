use Rattle.psos_model.proofs.AnswerBounds.{no_changes, no_effect}
use Rattle.psos_model.proofs.laws.refusals_do_nothing.Goals as goal

pub returns : goal.returns
returns c f x request r e = (no_changes f x request r e, no_effect f x request r e)
