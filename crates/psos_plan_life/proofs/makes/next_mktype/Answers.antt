use Rattle.psos_calls.specs.Language.User.{here}
use Rattle.psos_plan_life.proofs.CreationPlans.{makes_front, makes_stop, makes_end, same_uid, mktype_makes}
use Rattle.psos_plan_life.proofs.makes.next_mktype.Goals as goal

pub make_in-requires-clause-front : goal.make_in-requires-clause-front
make_in-requires-clause-front c = makes_front (mktype_makes (here c.args.me.now) c.args.rd c.args.rs c.args.name.now c.in-Cap.dir c.in-Cap.ensures.at) c.args.trace c.requires.run

pub returns-in-Err : goal.returns-in-Err
returns-in-Err c = makes_stop (mktype_makes (here c.args.me.now) c.args.rd c.args.rs c.args.name.now c.in-Cap.dir c.in-Cap.ensures.at) c.args.trace c.in-Err.next c.in-Err.ensures

pub returns : goal.returns
returns c =
    let found = c.in-Ok.found in
    makes_end (mktype_makes (here c.args.me.now) c.args.rd c.args.rs c.args.name.now c.in-Cap.dir c.in-Cap.ensures.at) c.args.trace c.enrol.result found.0.dir found.0.new found.1 c.in-Ok.ensures
    (c.enrol.ensures.comes _ found.1 (rw (same_uid _ _ c.uid-uid.ensures) at c.done-made.ensures.past))
