use Rattle.psos_calls.specs.Language.User.{here}
use Rattle.psos_plan_life.proofs.CreationPlans.{makes_front, makes_stop, makes_end, mkdir_makes}
use Rattle.psos_plan_life.proofs.makes.next_mkdir.Goals as goal

pub make_in-requires-clause-front : goal.make_in-requires-clause-front
make_in-requires-clause-front c = makes_front (mkdir_makes (here c.args.me.now) c.args.rd c.args.rs c.args.name.now c.args.guard c.in-Cap.dir c.in-Cap.ensures.at) c.args.trace c.requires.run

pub returns-in-Err : goal.returns-in-Err
returns-in-Err c = makes_stop (mkdir_makes (here c.args.me.now) c.args.rd c.args.rs c.args.name.now c.args.guard c.in-Cap.dir c.in-Cap.ensures.at) c.args.trace c.in-Err.next c.in-Err.ensures

pub returns : goal.returns
returns c =
    let found = c.in-Ok.found in
    makes_end (mkdir_makes (here c.args.me.now) c.args.rd c.args.rs c.args.name.now c.args.guard c.in-Cap.dir c.in-Cap.ensures.at) c.args.trace c.enrol.result found.0.dir found.0.new found.1 c.in-Ok.ensures
    (c.enrol.ensures.comes _ found.1 (rw (c.uid.ensures, c.guard_of.ensures) at c.directory-made.ensures))
