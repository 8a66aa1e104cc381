use Rattle.psos_plan_life.proofs.DeletePlan.{empty_tells}
use Rattle.psos_plan_life.proofs.removal.empty_gone.Goals as goal

pub returns : goal.returns
returns c = empty_tells c.args.inner.now c.args.uid.0 c.args.trace c.if-is_empty.ensures c.requires c.done.result c.done.ensures.past
