use Rattle.std.proofs.Common.{sym, ap, subst, ◌∙◌}
use Rattle.std.specs.Prelude.{IsTrue}
use Rattle.psos_model.specs.Run.{is_left}
use Rattle.psos_model.proofs.RequestsLeft.{none_passes, all_fail}
use Rattle.psos_core.specs.Least.{least}
use Rattle.psos_core.specs.Events.{core_state_of}
use Rattle.psos_core.proofs.EventStep.{least_is, none_is}
use Rattle.psos_core.proofs.TurnsRun.{somebody_left, somebody_goes}
use Rattle.psos_core.proofs.run.Core.finished.Goals as goal

pub returns-clause-over : goal.returns-clause-over
returns-clause-over g c =
    let core = c.args.self.now in
    let users = core.levels.privates.value.items in
    let test = is_left core.script users in
    let is = none_is core.script users c.as_slice.result.now c.current.result c.none_left.result (c.as_slice.ensures.value ∙ ap (λ p. p.items) c.deref.ensures) (c.current.ensures ∙ (ap least core.planned.phases-are ∙ least_is core.script users)) c.none_left.ensures in
    (λ h. none_passes test users (subst IsTrue is h), λ h. subst IsTrue (sym is) (all_fail test users h))

pub returns-clause-goes_on : goal.returns-clause-goes_on
returns-clause-goes_on g c = λ going left.
    let core = c.args.self.now in
    let users = core.levels.privates.value.items in
    let is = none_is core.script users c.as_slice.result.now c.current.result c.none_left.result (c.as_slice.ensures.value ∙ ap (λ p. p.items) c.deref.ensures) (c.current.ensures ∙ (ap least core.planned.phases-are ∙ least_is core.script users)) c.none_left.ensures in
    let one = somebody_left (is_left core.script users) users (sym is ∙ left) in
    somebody_goes core.script (core_state_of core) (core.goes_on going) one.0 one.1
