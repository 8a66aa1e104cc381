use Rattle.std.proofs.Common.{◌≡◌, ◌∷◌, ◌<◌, ◌^◌, rules}
use Rattle.psos_calls.specs.Language.User.{here}
use Rattle.psos_plan_seg.proofs.WindowPlan.{window_named}
use Rattle.psos_plan_seg.proofs.segments.next_window.Goals as goal

pub returns-in_default-answer-3 : goal.returns-in_default-answer-3
returns-in_default-answer-3 c =
    let cap = c.in-Cap.cap in
    let small : cap.rights < 2 ^ 16 = search rules in
    let a = c.in-Some.a in
    let b = c.in-Some-split_first.b in
    let s = c.in-Some-split_first-2.c in
    let rest = c.in-Some-split_first-2.field-0-1 in
    let is : c.args.trace ≡ a ∷ b ∷ s ∷ rest = search rules in
    let named = window_named c.args.rd c.args.base c.args.len cap c.in-New.new a b s rest c.in_default-answer.not-No c.in-New.is c.in_default-answer-3.not-No
    (here c.args.me.now) c.args.rs c.args.trace c.requires.trace.0 c.in-Cap.ensures.at is c.requires.trace.1 small in
    search (rules, named)
