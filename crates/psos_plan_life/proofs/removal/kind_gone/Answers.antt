use Rattle.std.proofs.Common.{sym, subst}
use Rattle.psos_calls.specs.declared.kind.Kind.{Kind}
use Rattle.psos_plan_life.specs.Parts.{Tells}
use Rattle.psos_plan_life.specs.Deletion.{kind_dropped}
use Rattle.psos_plan_life.proofs.removal.kind_gone.Goals as goal

pub returns-in-Segment : goal.returns-in-Segment
returns-in-Segment c =
    let P : Kind → Type 0 = λ k. Tells (kind_dropped k c.args.uid.0) c.args.trace c.segment_gone.result in
    subst P (sym c.in-Segment.is) c.segment_gone.ensures

pub returns-in-Typ : goal.returns-in-Typ
returns-in-Typ c =
    let P : Kind → Type 0 = λ k. Tells (kind_dropped k c.args.uid.0) c.args.trace c.done.result in
    subst P (sym c.in-Typ.is) c.done.ensures.past

pub returns-in-Object : goal.returns-in-Object
returns-in-Object c =
    let P : Kind → Type 0 = λ k. Tells (kind_dropped k c.args.uid.0) c.args.trace c.object_gone.result in
    subst P (sym c.in-Object.is) c.object_gone.ensures

pub returns-in-Code : goal.returns-in-Code
returns-in-Code c =
    let P : Kind → Type 0 = λ k. Tells (kind_dropped k c.args.uid.0) c.args.trace c.done-in-Code.result in
    subst P (sym c.in-Code.is) c.done-in-Code.ensures.past
