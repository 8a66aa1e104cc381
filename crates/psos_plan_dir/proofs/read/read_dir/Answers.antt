use Rattle.std.proofs.Common.{List, ◌∷◌, sym, subst}
use Rattle.psos_calls.specs.declared.step.Step.{Step}
use Rattle.psos_calls.specs.Plan.Parts.{read_dir, read_rep}
use Rattle.psos_plan_dir.specs.Reads.{IsDirFront, Reads}
use Rattle.psos_plan_dir.proofs.DirectoryReaders.{rep-on, rep-front}
use Rattle.psos_plan_dir.proofs.PlanSteps.{reads-on}
use Rattle.psos_plan_dir.proofs.read.read_dir.Goals as goal

pub read_rep-requires : goal.read_rep-requires
read_rep-requires c = rep-front c.args.dir.0 c.in-Rep.rep c.in-Some.a c.in-Some.rest c.in-Rep.is (subst (IsDirFront c.args.dir.0) c.in-Some.ensures c.requires)

pub returns-in-Rep : goal.returns-in-Rep
returns-in-Rep c =
    let a = c.in-Some.a in
    let rest = c.in-Some.rest in
    let on = rep-on c.args.dir.0 c.in-Rep.rep a rest c.in-Rep.is in
    let read = reads-on (read_dir c.args.dir.0) (read_rep c.in-Rep.rep.0) (a ∷ rest) rest on c.read_rep.result c.read_rep.ensures in
    subst (λ (t : List Step). Reads (read_dir c.args.dir.0) t c.read_rep.result) (sym c.in-Some.ensures) read
