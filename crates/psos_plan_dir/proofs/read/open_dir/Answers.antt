use Rattle.std.proofs.Common.{ℕ, List, ◌∷◌, sym, subst}
use Rattle.psos_calls.specs.declared.step.Step.{Step}
use Rattle.psos_calls.specs.Plan.Parts.{read_dir}
use Rattle.psos_plan_dir.specs.Reads.{open_with, IsCapFront, IsDirFront, Reads}
use Rattle.psos_plan_dir.proofs.DirectoryReaders.{guard-on, dir-front}
use Rattle.psos_plan_dir.proofs.PlanSteps.{reads-on}
use Rattle.psos_plan_dir.proofs.read.open_dir.Goals as goal

pub read_dir-requires : goal.read_dir-requires
read_dir-requires c =
    let front = dir-front c.args.cap c.args.right c.in-Guard.field-0 c.in-Some.a c.in-Some.rest c.in-Guard.is (subst (IsCapFront c.args.cap c.args.right) c.in-Some.ensures c.requires) in
    subst (λ (u : ℕ). IsDirFront u c.in-Some.rest) (sym c.uid.ensures) front

pub returns-in-Guard : goal.returns-in-Guard
returns-in-Guard c =
    let a = c.in-Some.a in
    let rest = c.in-Some.rest in
    let on = guard-on c.args.cap c.args.right c.in-Guard.field-0 a rest c.in-Guard.is in
    let told = subst (λ (u : ℕ). Reads (read_dir u) rest c.read_dir.result) c.uid.ensures c.read_dir.ensures in
    let read = reads-on (open_with c.args.cap c.args.right) (read_dir c.args.cap.uid) (a ∷ rest) rest on c.read_dir.result told in
    subst (λ (t : List Step). Reads (open_with c.args.cap c.args.right) t c.read_dir.result) (sym c.in-Some.ensures) read
