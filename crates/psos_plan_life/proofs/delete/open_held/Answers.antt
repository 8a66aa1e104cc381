use Rattle.psos_plan_dir.proofs.PlanSteps.{reads-on}
use Rattle.psos_plan_life.proofs.DeletePlan.{held_stops, held_stops_later, held_goes_on, held_opens}
use Rattle.psos_plan_life.proofs.delete.open_held.Goals as goal

pub returns-in-Err : goal.returns-in-Err
returns-in-Err c = held_stops c.args.dir c.args.trace c.in-Err.next c.in-Err.ensures.past

pub open_dir-requires : goal.open_dir-requires
open_dir-requires c = held_opens c.args.dir c.args.trace c.in-Ok.trace c.in-Ok-done.trace c.in-Ok.ensures.front c.in-Ok-done.ensures.front c.args.name.now c.requires

pub returns-in-Ok-done : goal.returns-in-Ok-done
returns-in-Ok-done c =
    let on = held_goes_on c.args.dir c.args.trace c.in-Ok.trace c.in-Ok-done.trace c.in-Ok.ensures.front c.in-Ok-done.ensures.front c.in-Ok.ensures.past c.in-Ok-done.ensures.past in
    reads-on _ _ _ _ on c.open_dir.result c.open_dir.ensures

pub returns-in-Err-done : goal.returns-in-Err-done
returns-in-Err-done c = held_stops_later c.args.dir c.args.trace c.in-Ok.trace c.in-Err-done.next c.in-Ok.ensures.past c.in-Err-done.ensures.past
