use Rattle.std.proofs.Common.{List, drop, ap, sym, subst, ◌∙◌}
use Rattle.psos_caps.specs.Capability.{Capability}
use Rattle.psos_calls.specs.Plan.Directories.{plan_find}
use Rattle.psos_calls.specs.Plan.Trace.{followed, next_of}
use Rattle.psos_plan_dir.specs.Reads.{IsRun}
use Rattle.psos_plan_dir.proofs.FindPlan.{resumed}
use Rattle.psos_plan_dir.proofs.spaces.next_find.Goals as goal

pub find_from-requires-clause-run : goal.find_from-requires-clause-run
find_from-requires-clause-run c =
    let rd = c.args.rd in
    let name = c.args.name.now in
    let passed = c.since_dir-passed.result.0 in
    let rest = c.since_dir-passed.result.1 in
    let r = resumed c.args.me.now.path rd name c.args.trace.now passed rest c.since_dir-passed.ensures c.requires.run in
    subst (λ (l : List Capability). IsRun (plan_find (drop passed l) rd name) rest) (sym c.path.ensures) r.run

pub returns : goal.returns
returns c =
    let rd = c.args.rd in
    let name = c.args.name.now in
    let passed = c.since_dir-passed.result.0 in
    let rest = c.since_dir-passed.result.1 in
    let r = resumed c.args.me.now.path rd name c.args.trace.now passed rest c.since_dir-passed.ensures c.requires.run in
    c.find_from.ensures
    ∙ ap (λ (l : List Capability). next_of (followed (plan_find (drop passed l) rd name) rest)) c.path.ensures
    ∙ sym (ap next_of r.is)
