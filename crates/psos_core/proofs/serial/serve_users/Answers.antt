use Rattle.std.proofs.Common.{◌<◌, ◌∙◌, length, arith}
use Rattle.psos_core.specs.System.{system_of}
use Rattle.psos_core.proofs.PhaseCounts.{counted_here, counted_few, counted_more}
use Rattle.psos_core.proofs.SerialRun.{next_phase, front_so_far, settled_so_far}
use Rattle.psos_core.proofs.serial.serve_users.Goals as goal

pub overflow_add-count : goal.overflow_add-count
overflow_add-count g c =
    let s = c.args.script.now in
    let below : c.users.u < length s.users = grind arith in
    let here = counted_here s c.args.p c.users.u c.asked_in.result c.users.counts c.users.invariant.3 below c.asked_in.ensures in
    omega (arith, here, counted_few s c.args.p c.users.u c.requires.1.0.well_formed below)

pub serve_user-requires : goal.serve_user-requires
serve_user-requires g c κs within =
    let below : c.users.u < length c.args.script.now.users = grind arith in
    (within, (c.requires.1.0, (below, (c.requires.1.1.0, (counted_here c.args.script.now c.args.p c.users.u c.asked_in.result c.users.counts c.users.invariant.3 below c.asked_in.ensures, c.users.invariant.0)))))

pub users-preserved : goal.users-preserved
users-preserved g c =
    let below : c.users.u < length c.args.script.now.users = grind arith in
    let here = counted_here c.args.script.now c.args.p c.users.u c.asked_in.result c.users.counts c.users.invariant.3 below c.asked_in.ensures in
    let room : c.users.u < length c.users.counts = omega (arith, below, c.requires.1.0.well_formed.few_users, c.told-counts) in (
      c.in_ok-serve_user.ensures.served,
      omega (arith, c.in_ok-serve_user.ensures.cause.later, c.users.invariant.1),
      c.serve_user.ensures.users ∙ c.users.invariant.2,
      counted_more c.args.script.now c.args.p c.users.u _ c.users.counts c.users.invariant.3 room here,
    )

pub returns-clause-served : goal.returns-clause-served
returns-clause-served g c =
    next_phase c.args.script.now g.start.system g.start.flat c.requires.1.0 (system_of c.users.levels) c.users.entries c.args.p c.users.u c.users.invariant.0 (grind (arith))

pub returns-clause-front : goal.returns-clause-front
returns-clause-front g c = front_so_far c.args.script.now g.start.system g.start.flat (system_of c.users.levels) c.users.entries c.args.p c.users.u c.requires.1.0 c.users.invariant.0

pub returns-clause-settled : goal.returns-clause-settled
returns-clause-settled g c = settled_so_far c.args.script.now g.start.system g.start.flat (system_of c.users.levels) c.users.entries c.args.p c.users.u c.users.invariant.0
