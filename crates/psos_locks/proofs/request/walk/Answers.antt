use Rattle.std.proofs.Common.{◌≡◌, ◌≤◌, ◌+◌, length, Option, ap, ◌∙◌, subst, arith}
use Rattle.psos_calls.specs.Language.User.{next_request}
use Rattle.psos_calls.specs.Plan.Requests.{plan_of}
use Rattle.psos_core.specs.declared.perform.Closing.{Closing}
use Rattle.psos_locks.specs.Grips.{grips_of}
use Rattle.psos_locks.specs.Runs.{HasStepped}
use Rattle.psos_locks.specs.Users.{OwnView}
use Rattle.psos_locks.proofs.Working.{few}
use Rattle.psos_locks.proofs.request.walk.Goals as goal

pub walk-smaller : goal.walk-smaller
walk-smaller g c =
    let s = g.T.Run.script in
    let o = c.walk.own in
    let asks = ap (λ (v : OwnView). next_request s v.own) c.walk.invariant.0.rest ∙ c.requires.asks in
    let short : length o.trace ≤ 44 = few s c.requires.script o.side o.own c.args.request.now (grips_of c.walk.hands) o.trace c.walk.invariant.1 asks in
    let went : length c.step.new.own.trace ≡ length o.trace + 1 =
    subst (λ (q : Option Closing). HasStepped (plan_of o.own c.args.request.now) o.trace c.step.new.own.trace q) c.in_default.is c.in_ok-closing.ensures.went in
    omega (arith, short, went)
