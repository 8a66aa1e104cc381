use Rattle.std.proofs.Common.{◌∙◌, arith}
use Rattle.psos_plan_dir.proofs.FindPlan.{find-asks, passed-run, passed-left, find-front, find-next, found-left, missing-run, missing-left}
use Rattle.psos_plan_dir.proofs.spaces.+find_from.Goals as goal

pub returns-in_default : goal.returns-in_default
returns-in_default t c = find-asks c.args.path.now c.args.i c.args.rd c.args.name.now c.get-cap.result c.get-cap.ensures c.args.trace c.in_default.ensures

pub find_from-requires : goal.find_from-requires
find_from-requires t c = (
  omega arith,
  (
    c.requires.named,
    passed-run c.args.path.now c.args.i c.args.rd c.args.name.now c.get-cap.result c.get-cap.ensures c.args.trace c.in-Some.a c.in-Some.rest c.in-Some.ensures
        c.in_default-answer.not-Guard c.requires.run,
  ),
)

pub returns-in_default-answer : goal.returns-in_default-answer
returns-in_default-answer t c =
    c.find_from.ensures
    ∙ passed-left c.args.path.now c.args.i c.args.rd c.args.name.now c.get-cap.result c.get-cap.ensures c.args.trace c.in-Some.a c.in-Some.rest c.in-Some.ensures
    c.in_default-answer.not-Guard

pub read_dir-requires : goal.read_dir-requires
read_dir-requires t c =
    find-front c.args.path.now c.args.i c.args.rd c.args.name.now c.get-cap.result c.get-cap.ensures c.args.trace c.in-Some.a c.in-Some.rest c.in-Some.ensures
    c.in-Guard.field-0 c.in-Guard.is c.uid.result.0 c.uid.ensures c.requires.run

pub returns-in-Next : goal.returns-in-Next
returns-in-Next t c =
    find-next c.args.path.now c.args.i c.args.rd c.args.name.now c.get-cap.result c.get-cap.ensures c.args.trace c.in-Some.a c.in-Some.rest c.in-Some.ensures
    c.in-Guard.field-0 c.in-Guard.is c.uid.result.0 c.uid.ensures c.in-Next.next c.in-Next.ensures

pub find_from-requires-in-None : goal.find_from-requires-in-None
find_from-requires-in-None t c = (
  omega arith,
  (
    c.requires.named,
    missing-run c.args.path.now c.args.i c.args.rd c.args.name.now c.get-cap.result c.get-cap.ensures c.args.trace c.in-Some.a c.in-Some.rest c.in-Some.ensures
        c.in-Guard.field-0 c.in-Guard.is c.uid.result.0 c.uid.ensures c.in-Done.open c.in-Done.rest c.in-Done.ensures c.requires.run c.in-None.ensures.looked,
  ),
)

pub returns-in-Some-found_now : goal.returns-in-Some-found_now
returns-in-Some-found_now t c =
    c.give.ensures
    ∙ found-left c.args.path.now c.args.i c.args.rd c.args.name.now c.get-cap.result c.get-cap.ensures c.args.trace c.in-Some.a c.in-Some.rest c.in-Some.ensures
    c.in-Guard.field-0 c.in-Guard.is c.uid.result.0 c.uid.ensures c.in-Done.open c.in-Done.rest c.in-Done.ensures
    c.in-Some-found_now.found (c.in-Some-found_now.ensures.looked c.in-Some-found_now.ensures.passed)

pub returns-in-None : goal.returns-in-None
returns-in-None t c =
    c.find_from-in-None.ensures
    ∙ missing-left c.args.path.now c.args.i c.args.rd c.args.name.now c.get-cap.result c.get-cap.ensures c.args.trace c.in-Some.a c.in-Some.rest c.in-Some.ensures
    c.in-Guard.field-0 c.in-Guard.is c.uid.result.0 c.uid.ensures c.in-Done.open c.in-Done.rest c.in-Done.ensures c.requires.run c.in-None.ensures.looked
