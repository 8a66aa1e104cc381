use Rattle.std.proofs.Common.{List, ◌∷◌, Some, ap, sym, subst, ◌∙◌}
use Rattle.psos_calls.specs.declared.step.Step.{Step}
use Rattle.psos_plan_life.specs.Vacancies.{opening, IsOpening}
use Rattle.psos_plan_dir.specs.Reads.{IsNext, Reads}
use Rattle.psos_plan_dir.proofs.PlanSteps.{reads-on}
use Rattle.psos_plan_life.proofs.TypedOpening.{typed_front, typed_goes_on, typed_stops}
use Rattle.psos_plan_life.proofs.vacancy.open_typed.Goals as goal

pub read_rep-requires : goal.read_rep-requires
read_rep-requires c =
    let a = c.in-Some.a in
    let b = c.in-Some-split_first.b in
    let typed = c.in-Some-split_first.trace in
    let all = c.in-Some.ensures ∙ ap (λ (t : List Step). a ∷ t) c.in-Some-split_first.ensures in
    let on = typed_goes_on c.args.dir c.args.of a b typed c.in-Guard.field-0 c.in-Rep.rep c.in-Guard.is c.in-Rep.is c.in-Ok.trace c.in-Ok.ensures.past c.in-Ok.ensures.front in
    typed_front c.args.dir c.args.of a b typed c.in-Guard.field-0 c.in-Rep.rep c.in-Guard.is c.in-Rep.is c.in-Ok.trace on (subst (IsOpening c.args.dir (Some c.args.of)) all c.requires)

pub returns-in-Ok : goal.returns-in-Ok
returns-in-Ok c =
    let a = c.in-Some.a in
    let b = c.in-Some-split_first.b in
    let typed = c.in-Some-split_first.trace in
    let all = c.in-Some.ensures ∙ ap (λ (t : List Step). a ∷ t) c.in-Some-split_first.ensures in
    let on = typed_goes_on c.args.dir c.args.of a b typed c.in-Guard.field-0 c.in-Rep.rep c.in-Guard.is c.in-Rep.is c.in-Ok.trace c.in-Ok.ensures.past c.in-Ok.ensures.front in
    let P : List Step → Type 0 = λ t. Reads (opening c.args.dir (Some c.args.of)) t c.read_rep.result in
    subst P (sym all) (reads-on _ _ _ _ on c.read_rep.result c.read_rep.ensures)

pub returns-in-Err : goal.returns-in-Err
returns-in-Err c =
    let a = c.in-Some.a in
    let b = c.in-Some-split_first.b in
    let typed = c.in-Some-split_first.trace in
    let all = c.in-Some.ensures ∙ ap (λ (t : List Step). a ∷ t) c.in-Some-split_first.ensures in
    let P : List Step → Type 0 = λ t. IsNext (opening c.args.dir (Some c.args.of)) t c.in-Err.next in
    subst P (sym all) (typed_stops c.args.dir c.args.of a b typed c.in-Guard.field-0 c.in-Rep.rep c.in-Guard.is c.in-Rep.is c.in-Err.next c.in-Err.ensures.past)
