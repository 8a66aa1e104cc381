use Rattle.psos_calls.specs.Language.User.{here}
use Rattle.psos_plan_life.proofs.CreationPlans.{makes_front, makes_stop, makes_end, same_uid, mkcode_makes, trial_stops, trial_passed, trial_run}
use Rattle.psos_plan_life.proofs.makes.next_mkcode.Goals as goal

pub returns-in-Err : goal.returns-in-Err
returns-in-Err c =
    trial_stops (here c.args.me.now) c.args.rd c.args.rs c.args.name.now c.args.label c.args.rl c.in-Cap.dir c.in-Cap.ensures.at c.args.trace c.in-Err.next
    (rw (← c.here-link.ensures.at) at c.in-Err.ensures.past)

pub make_in-requires-clause-front : goal.make_in-requires-clause-front
make_in-requires-clause-front c =
    let lead = rw (← c.here-link.ensures.at) at c.in-Ok.ensures.front in
    makes_front (mkcode_makes (here c.args.me.now) c.args.rd c.args.name.now c.args.label c.args.rl c.in-Cap.dir) c.in-Ok.trace
    (trial_run (here c.args.me.now) c.args.rd c.args.rs c.args.name.now c.args.label c.args.rl c.in-Cap.dir c.in-Cap.ensures.at c.args.trace c.in-Ok.trace lead c.requires.run)

pub returns-in-Err-make_in : goal.returns-in-Err-make_in
returns-in-Err-make_in c =
    let given = rw (← c.here-link.ensures.at) at c.in-Ok.ensures.past in
    trial_passed (here c.args.me.now) c.args.rd c.args.rs c.args.name.now c.args.label c.args.rl c.in-Cap.dir c.in-Cap.ensures.at c.args.trace c.in-Err-make_in.next c.in-Ok.trace given
    (makes_stop (mkcode_makes (here c.args.me.now) c.args.rd c.args.name.now c.args.label c.args.rl c.in-Cap.dir) c.in-Ok.trace c.in-Err-make_in.next c.in-Err-make_in.ensures)

pub returns : goal.returns
returns c =
    let found = c.in-Ok-make_in.found in
    let given = rw (← c.here-link.ensures.at) at c.in-Ok.ensures.past in
    trial_passed (here c.args.me.now) c.args.rd c.args.rs c.args.name.now c.args.label c.args.rl c.in-Cap.dir c.in-Cap.ensures.at c.args.trace c.enrol.result c.in-Ok.trace given
    (makes_end (mkcode_makes (here c.args.me.now) c.args.rd c.args.name.now c.args.label c.args.rl c.in-Cap.dir) c.in-Ok.trace c.enrol.result found.0.dir found.0.new found.1 c.in-Ok-make_in.ensures
    (c.enrol.ensures.comes _ found.1 (rw (same_uid _ _ c.uid-uid.ensures, ← c.here-link.ensures.at) at c.done-made.ensures.past)))
