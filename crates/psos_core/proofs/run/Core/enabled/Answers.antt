use Rattle.std.proofs.Common.{◌≡◌, Bool, true, false, ◌&&◌, length, refl, sym, ap, ◌∙◌}
use Rattle.psos_model.specs.Run.{has_left}
use Rattle.psos_core.specs.Plans.{next_for, may_go}
use Rattle.psos_core.specs.Events.{core_state_of}
use Rattle.psos_core.proofs.EventStep.{enabled_is}
use Rattle.psos_core.proofs.run.Core.enabled.Goals as goal

and-true : (b : Bool) → (b && true) ≡ b
and-true true = refl
and-true false = refl

and-false : (b : Bool) → (b && false) ≡ false
and-false true = refl
and-false false = refl

pub returns-then-may_go : goal.returns-then-may_go
returns-then-may_go g c =
    let core = c.args.self.now in
    let now = core_state_of core in
    let u = c.args.user in
    sym (and-true c.is_left.result)
    ∙ (ap (λ (b : Bool). c.is_left.result && b) (sym c.if-may_go.true ∙ c.may_go.ensures)
    ∙ (ap (λ (b : Bool). b && may_go (length core.script.users) now.held u (next_for core.script now u)) c.is_left.ensures
    ∙ sym (enabled_is core.script now u)))

pub returns-else-may_go : goal.returns-else-may_go
returns-else-may_go g c =
    let core = c.args.self.now in
    let now = core_state_of core in
    let left = has_left core.script now.users c.args.user in
    c.if-may_go.false
    ∙ (sym (and-false left)
    ∙ (ap (λ (b : Bool). left && b) (sym c.if-may_go.false ∙ c.may_go.ensures)
    ∙ sym (enabled_is core.script now c.args.user)))
