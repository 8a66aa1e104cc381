use Rattle.std.proofs.Common.{true, List, subst, Result}
use Rattle.psos_words.specs.declared.word.Word.TheVariants.{Cap}
use Rattle.psos_words.specs.Directory.{entry_words}
use Rattle.psos_calls.specs.declared.next.Next.{Next}
use Rattle.psos_calls.specs.declared.step.Step.{Step}
use Rattle.psos_calls.specs.Plan.{give}
use Rattle.psos_calls.specs.Plan.Parts.{enrolled, put_slot}
use Rattle.psos_plan_life.specs.Parts.{Tells}
use Rattle.psos_plan_life.specs.Vacancies.{free_slot}
use Rattle.psos_plan_life.proofs.PlanSequence.{passed}
use Rattle.psos_plan_life.proofs.CreationPlans.{same_uid}
use Rattle.psos_plan_life.proofs.enrol.enrol.Goals as goal

pub returns-in-Ok-done : goal.returns-in-Ok-done
returns-in-Ok-done c =
    let vacancy = c.args.vacancy.now in
    let k = free_slot vacancy.dir in
    let there = rw (same_uid _ _ c.uid-uid.ensures) at c.in-Ok-done.ensures.past in
    let then = passed there (λ _. put_slot vacancy.dir k (entry_words c.args.name.now vacancy.new true) (give c.args.rd (Cap vacancy.new))) c.enter.ensures in
    record {
      comes = λ part trace tells.
          let P : Result (List Step) Next → Type 0 = λ r. Tells part trace r in
          passed (subst P c.in-Ok.is tells) (λ _. enrolled vacancy.dir k c.args.name.now c.args.kind vacancy.new c.args.rd) then;
    }

pub returns-in-Err-done : goal.returns-in-Err-done
returns-in-Err-done c =
    let vacancy = c.args.vacancy.now in
    let k = free_slot vacancy.dir in
    let stops = rw (same_uid _ _ c.uid-uid.ensures) at c.in-Err-done.ensures.past in
    let next = stops.comes (λ _. put_slot vacancy.dir k (entry_words c.args.name.now vacancy.new true) (give c.args.rd (Cap vacancy.new))) in
    record {
      comes = λ part trace tells.
          let P : Result (List Step) Next → Type 0 = λ r. Tells part trace r in
          passed (subst P c.in-Ok.is tells) (λ _. enrolled vacancy.dir k c.args.name.now c.args.kind vacancy.new c.args.rd) next;
    }
