use Rattle.std.proofs.lemmas.Result.{err_from_is_err_and}
use Rattle.psos_calls.specs.declared.level_call.LevelCall.TheVariants.{DirMake}
use Rattle.psos_plan_life.specs.Parts.{doing}
use Rattle.psos_plan_life.proofs.PlanSequence.{first_stops, last_part}
use Rattle.psos_plan_life.proofs.segments.directory.Goals as goal

pub returns-in_err-trace : goal.returns-in_err-trace
returns-in_err-trace c =
    let p = err_from_is_err_and c.from_residual.result c.from_residual.ensures.1 in
    rw (p.1, p.2) (first_stops (λ _. doing (DirMake c.args.uid c.args.guard)) c.in_err-trace.ensures)

pub returns : goal.returns
returns c = last_part (λ _. doing (DirMake c.args.uid c.args.guard)) c.done.result c.in_ok-trace.ensures c.done.ensures.past
