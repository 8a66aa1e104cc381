use Rattle.std.proofs.Common.{ℕ, Option}
use Rattle.std.proofs.lemmas.Result.{err_from_is_err_and}
use Rattle.psos_caps.specs.Capability.{Capability}
use Rattle.psos_caps.specs.declared.cap.Uid.{Uid}
use Rattle.psos_caps.specs.declared.rights.Rights.{Rights}
use Rattle.psos_calls.specs.declared.level_call.LevelCall.TheVariants.{ObjMake}
use Rattle.psos_calls.specs.Plan.{Plan}
use Rattle.psos_plan_life.specs.Parts.{doing, segmented}
use Rattle.psos_plan_life.proofs.PlanSequence.{first_stops, second_stops, last_part}
use Rattle.psos_plan_life.proofs.segments.representation.Goals as goal

-- what is behind the new identifier
abbrev behind : Uid → ℕ → Rights → Option Uid → Capability → (Unit {0} → Plan) → Plan
behind uid len guard of rep go = segmented rep.uid len guard (λ _. doing (ObjMake uid of rep) go)

pub returns-in_err-rep : goal.returns-in_err-rep
returns-in_err-rep c =
    let p = err_from_is_err_and c.from_residual.result c.from_residual.ensures.1 in
    rw (p.1, p.2) (first_stops (behind c.args.uid c.args.len c.args.guard c.args.of) c.in_err-rep.ensures)

pub returns-in_err-trace : goal.returns-in_err-trace
returns-in_err-trace c =
    let p = err_from_is_err_and c.from_residual-in_err-trace.result c.from_residual-in_err-trace.ensures.1 in
    let stops = rw c.uid.ensures at c.in_err-trace.ensures in
    rw (p.1, p.2) (second_stops (behind c.args.uid c.args.len c.args.guard c.args.of) c.in_ok-rep.ensures
    (first_stops (λ _. doing (ObjMake c.args.uid c.args.of c.in_ok-rep.rep)) stops))

pub returns : goal.returns
returns c =
    let gives = rw c.uid.ensures at c.in_ok-trace.ensures in
    last_part (behind c.args.uid c.args.len c.args.guard c.args.of) c.done.result c.in_ok-rep.ensures
    (last_part (λ _. doing (ObjMake c.args.uid c.args.of c.in_ok-rep.rep)) c.done.result gives c.done.ensures.past)
