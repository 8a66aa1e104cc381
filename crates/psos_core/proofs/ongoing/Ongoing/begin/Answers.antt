use Rattle.std.proofs.Common.{◌≡◌, ◌<◌, [], List, length, map, refl, sym, ap, ◌∙◌, subst, arith}
use Rattle.std.specs.Prelude.{slice_get, Some}
use Rattle.std.proofs.lemmas.List.{length-set, length-map, take_all}
use Rattle.psos_calls.specs.declared.step.Step.{Step}
use Rattle.psos_model.specs.Run.{phase_of}
use Rattle.psos_core.specs.Plans.{next_after, CanPlan, Tells}
use Rattle.psos_core.proofs.UserSlots.{found_there}
use Rattle.psos_core.proofs.EventStart.{begun_more, begun_all, cleared_more, phases_more}
use Rattle.psos_core.proofs.EventParts.{read_back}
use Rattle.psos_core.proofs.ongoing.Ongoing.begin.Goals as goal

pub planned-requires-clause-trace : goal.planned-requires-clause-trace
planned-requires-clause-trace c =
    let u = c.users.u in
    let x = c.index-users-u.result in
    let traces = c.users.self.traces.items in
    let within : u < length traces = omega (arith, c.users-test.true, c.users.invariant.4) in
    let empty : c.index.result.now ≡ [] = read_back traces u c.clear.new.self c.index.result.now within c.index.ensures ∙ c.clear.ensures in
    let none : CanPlan c.args.script.now x [] = record { levels = c.requires.lists.0; traced = λ request asks. tt; lists = c.requires.lists.1 } in
    subst (λ (t : List Step). CanPlan c.args.script.now x t) (sym empty) none

pub users-preserved : goal.users-preserved
users-preserved c =
    let s = c.args.script.now in
    let users = c.args.users.now in
    let u = c.users.u in
    let x = c.index-users-u.result in
    let held = c.users.self.held in
    let traces = c.users.self.traces.items in
    let within : u < length traces = omega (arith, c.users-test.true, c.users.invariant.4) in
    let holds : u < length held = omega (arith, c.users-test.true, c.users.invariant.2) in
    let empty : c.index.result.now ≡ [] = read_back traces u c.clear.new.self c.index.result.now within c.index.ensures ∙ c.clear.ensures in
    let here : slice_get users u ≡ Some x = found_there users users u x refl c.index-users-u.is c.users-test.true in
    let y = c.index-users-u-in-users.result in
    let there : slice_get users u ≡ Some y = found_there users users u y refl c.index-users-u-in-users.is c.users-test.true in
    let phased : u < length c.users.self.phases = omega (arith, c.users-test.true, c.users.invariant.6) in (
      begun_more s users c.users.self.nexts.items u x c.planned.result c.users.invariant.0 c.users-test.true here
          (subst (λ (t : List Step). Tells c.planned.result (next_after s x t)) empty c.planned.ensures.told) (c.planned.ensures.first empty),
      cleared_more held c.release.new.self u [] c.users.invariant.1 holds c.release.ensures.held refl,
      c.release.ensures.users ∙ c.users.invariant.2,
      cleared_more traces _ u c.clear.new.self c.users.invariant.3 within refl c.clear.ensures,
      length-set traces u c.clear.new.self ∙ c.users.invariant.4,
      phases_more s users c.users.self.phases c.set.new.self u y c.phase_of.result c.users.invariant.5 phased c.users-test.true there c.phase_of.ensures c.set.ensures,
      ap length c.set.ensures ∙ (length-set c.users.self.phases u c.phase_of.result ∙ c.users.invariant.6),
    )

pub set-requires : goal.set-requires
set-requires c = omega (arith, c.users-test.true, c.users.invariant.6)

pub returns-clause-phases : goal.returns-clause-phases
returns-clause-phases c =
    let all = map (phase_of c.args.script.now) c.args.users.now in
    sym (take_all c.users.u c.users.self.phases (omega (arith, c.users-test.false, c.users.invariant.6)))
    ∙ (c.users.invariant.5 ∙ take_all c.users.u all (omega (arith, c.users-test.false, length-map c.args.users.now (phase_of c.args.script.now))))

pub returns-clause-nexts : goal.returns-clause-nexts
returns-clause-nexts c = begun_all c.args.script.now c.args.users.now c.users.self.nexts.items c.users.u c.users.invariant.0 (omega (arith, c.users-test.false))
