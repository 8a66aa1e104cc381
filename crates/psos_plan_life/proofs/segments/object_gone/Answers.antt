use Rattle.std.proofs.lemmas.Result.{err_from_is_err_and}
use Rattle.psos_plan_life.specs.Parts.{segment_dropped}
use Rattle.psos_plan_life.proofs.PlanSequence.{first_stops, last_part}
use Rattle.psos_plan_life.proofs.segments.object_gone.Goals as goal

pub returns-in_err-rep : goal.returns-in_err-rep
returns-in_err-rep c =
    let p = err_from_is_err_and c.from_residual.result c.from_residual.ensures.1 in
    rw (p.1, p.2) (first_stops (λ rep. segment_dropped rep) c.in_err-rep.ensures)

pub returns : goal.returns
returns c = last_part (λ rep. segment_dropped rep) c.segment_gone.result c.in_ok-rep.ensures c.segment_gone.ensures
