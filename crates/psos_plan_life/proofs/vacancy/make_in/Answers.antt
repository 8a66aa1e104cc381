use Rattle.std.proofs.Common.{Option}
use Rattle.std.proofs.lemmas.Result.{err_from_is_err_and}
use Rattle.psos_caps.specs.Capability.{Capability}
use Rattle.psos_text.specs.declared.name.Name.{Name}
use Rattle.psos_calls.specs.Plan.{Plan}
use Rattle.psos_calls.specs.Plan.Parts.{Opened}
use Rattle.psos_plan_life.specs.Vacancies.{Vacancy, opening, finding}
use Rattle.psos_plan_life.proofs.PlanSequence.{first_stops, second_stops, both_given, read_gives, next_stops}
use Rattle.psos_plan_life.proofs.RoomSearch.{finding_apart}
use Rattle.psos_plan_life.proofs.vacancy.make_in.Goals as goal

-- what is behind the room for one more object, and what is behind the directory
abbrev opened : Capability → Option Capability → Name → Unit {0} → (Vacancy → Plan) → Plan
opened dir of name _ go = opening dir of (λ d. finding d name go)

abbrev found : Name → Opened → (Vacancy → Plan) → Plan
found name d go = finding d name go

pub returns-in_err-trace : goal.returns-in_err-trace
returns-in_err-trace c =
    let p = err_from_is_err_and c.from_residual.result c.from_residual.ensures.1 in
    rw (p.1, p.2) (first_stops (opened c.args.dir c.args.of c.args.name.now) c.in_err-trace.ensures.past)

pub open_for-requires : goal.open_for-requires
open_for-requires c =
    let r = c.requires.front in
    let name = c.args.name.now in
    record { levels = r.levels; lists = r.lists; go = λ d. finding d name r.go; apart = λ d. finding_apart d name r.go; front = c.in_ok-trace.ensures.front.front r.levels (λ _. opened c.args.dir c.args.of name tt r.go) r.front }

pub returns-in-Next : goal.returns-in-Next
returns-in-Next c =
    second_stops (opened c.args.dir c.args.of c.args.name.now) c.in_ok-trace.ensures.past (first_stops (found c.args.name.now) (next_stops c.in-Next.ensures))

pub find_vacancy-requires-clause-front : goal.find_vacancy-requires-clause-front
find_vacancy-requires-clause-front c =
    let r = c.requires.front in
    let name = c.args.name.now in
    let front = c.in_ok-trace.ensures.front.front r.levels (λ _. opened c.args.dir c.args.of name tt r.go) r.front in
    record { levels = r.levels; go = r.go; front = c.in-Done.ensures.front r.levels (λ d. finding d name r.go) front }

pub returns-in_err-new : goal.returns-in_err-new
returns-in_err-new c =
    let p = err_from_is_err_and c.from_residual-in_err-new.result c.from_residual-in_err-new.ensures.1 in
    rw (p.1, p.2) (second_stops (opened c.args.dir c.args.of c.args.name.now) c.in_ok-trace.ensures.past (second_stops (found c.args.name.now) (read_gives c.in-Done.ensures) c.in_err-new.ensures))

pub returns : goal.returns
returns c = record {
  room = c.in_ok-new.ensures.room;
  gives = both_given (opened c.args.dir c.args.of c.args.name.now) c.in_ok-trace.ensures.past (both_given (found c.args.name.now) (read_gives c.in-Done.ensures) c.in_ok-new.ensures.gives);
}
