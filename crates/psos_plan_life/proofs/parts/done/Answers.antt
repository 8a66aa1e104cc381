use Rattle.psos_plan_life.proofs.RunFronts.{leads}
use Rattle.psos_plan_life.proofs.parts.done.Goals as goal

pub returns-in_default-answer-clause-front : goal.returns-in_default-answer-clause-front
returns-in_default-answer-clause-front c = leads c.args.call c.in-Some.step c.args.trace c.in-Some.rest c.in-Some.ensures c.in_default-answer.not-No
