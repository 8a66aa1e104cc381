use Rattle.std.proofs.Common.{sym, ap, ◌∙◌}
use Rattle.psos_calls.specs.Language.User.{here}
use Rattle.psos_calls.specs.Plan.{Plan}
use Rattle.psos_calls.specs.Plan.Trace.{followed, next_of}
use Rattle.psos_plan_life.specs.Deletion.{deleting}
use Rattle.psos_plan_life.proofs.DeletePlan.{delete_is, delete_front}
use Rattle.psos_plan_life.proofs.delete.next_delete.Goals as goal

pub open_held-requires : goal.open_held-requires
open_held-requires c = delete_front (here c.args.me.now) c.args.rs c.args.name.now c.in-Cap.dir c.args.trace c.in-Cap.ensures.at c.requires.run

pub delete_in-requires-clause-front : goal.delete_in-requires-clause-front
delete_in-requires-clause-front c =
    let f = delete_front (here c.args.me.now) c.args.rs c.args.name.now c.in-Cap.dir c.args.trace c.in-Cap.ensures.at c.requires.run in
    record { levels = f.levels; lists = f.lists; front = c.in-Done.ensures.front f.levels (λ d. deleting d c.args.name.now) f.front }

pub returns-in-Next : goal.returns-in-Next
returns-in-Next c =
    let e = delete_is (here c.args.me.now) c.args.rs c.args.name.now c.in-Cap.dir c.in-Cap.ensures.at in
    sym (ap (λ (p : Plan). next_of (followed p c.args.trace)) e ∙ c.in-Next.ensures.is (λ d. deleting d c.args.name.now))

pub returns-in-Done : goal.returns-in-Done
returns-in-Done c =
    let e = delete_is (here c.args.me.now) c.args.rs c.args.name.now c.in-Cap.dir c.in-Cap.ensures.at in
    c.delete_in.ensures ∙ sym (ap (λ (p : Plan). next_of (followed p c.args.trace)) e ∙ ap next_of (c.in-Done.ensures.is (λ d. deleting d c.args.name.now)))
