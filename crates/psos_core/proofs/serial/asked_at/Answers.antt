use Rattle.std.proofs.Common.{◌≡◌, ◌≤◌, ◌<◌, ◌+◌, ◌-◌, [], get_or, sym, ap, ◌∙◌, arith}
use Rattle.std.specs.Prelude.{slice_get}
use Rattle.psos_calls.specs.Language.Script.{user_script}
use Rattle.psos_core.specs.UnderWay.{asked_before}
use Rattle.psos_core.proofs.PhaseRequests.{asked_more, asked_here}
use Rattle.psos_core.proofs.serial.asked_at.Goals as goal

pub overflow_sub-count : goal.overflow_sub-count
overflow_sub-count c =
    let phases = (user_script c.args.script.now c.args.u).phases in
    omega (arith, c.requires.count, c.asked_in-last.ensures, asked_more phases c.args.p)

pub overflow_sub-count-then-count-last : goal.overflow_sub-count-then-count-last
overflow_sub-count-then-count-last c =
    let phases = (user_script c.args.script.now c.args.u).phases in
    omega (arith, c.requires.count, c.asked_in-last.ensures, asked_more phases c.args.p)

pub returns-then-count-last : goal.returns-then-count-last
returns-then-count-last c =
    let phases = (user_script c.args.script.now c.args.u).phases in
    let p = c.args.p in
    let k = c.args.k in
    let first : c.args.count - c.asked_in-last.result ≡ asked_before phases p = omega (arith, c.requires.count, c.asked_in-last.ensures, asked_more phases p) in
    let low : asked_before phases p ≤ k = omega (arith, first, c.if-count-last.true) in
    let high : k < asked_before phases (p + 1) = omega (arith, c.requires.count, c.if-k-count.true) in
    let place : k - (c.args.count - c.asked_in-last.result) ≡ k - asked_before phases p = ap (λ n. k - n) first in
    c.asked_of.ensures ∙ ap (slice_get (get_or phases p [])) place ∙ sym (asked_here phases p k low high)
