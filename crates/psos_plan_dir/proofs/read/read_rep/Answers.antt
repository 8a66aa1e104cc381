use Rattle.std.proofs.Common.{[], List, ◌∷◌, sym, subst}
use Rattle.psos_calls.specs.declared.step.Step.{Step}
use Rattle.psos_calls.specs.Plan.Parts.{read_pages, read_rep}
use Rattle.psos_plan_dir.specs.Reads.{IsRepFront, Reads}
use Rattle.psos_plan_dir.proofs.DirectoryReaders.{slot-on, slot-front}
use Rattle.psos_plan_dir.proofs.PlanSteps.{reads-on}
use Rattle.psos_plan_dir.proofs.read.read_rep.Goals as goal

pub read_pages-requires : goal.read_pages-requires
read_pages-requires c = slot-front c.args.rep.0 c.in-Slot.slot c.in-Some.a c.in-Some.rest c.in-Slot.is (subst (IsRepFront c.args.rep.0) c.in-Some.ensures c.requires)

pub returns-in-Slot : goal.returns-in-Slot
returns-in-Slot c =
    let a = c.in-Some.a in
    let rest = c.in-Some.rest in
    let on = slot-on c.args.rep.0 c.in-Slot.slot a rest c.in-Slot.is in
    let read = reads-on (read_rep c.args.rep.0) (read_pages 8 c.in-Slot.slot 0 []) (a ∷ rest) rest on c.read_pages.result c.read_pages.ensures in
    subst (λ (t : List Step). Reads (read_rep c.args.rep.0) t c.read_pages.result) (sym c.in-Some.ensures) read
