use Rattle.std.proofs.Common.{Option, sym, subst}
use Rattle.psos_caps.specs.Capability.{Capability}
use Rattle.psos_plan_life.specs.Vacancies.{opening, IsOpening}
use Rattle.psos_plan_dir.specs.Reads.{Reads}
use Rattle.psos_plan_life.proofs.vacancy.open_for.Goals as goal

pub open_dir-requires : goal.open_dir-requires
open_dir-requires c =
    let P : Option Capability → Type 0 = λ of. IsOpening c.args.dir of c.args.trace in
    let o = subst P c.in-None.is c.requires in
    record { levels = o.levels; front = record { lists = o.lists; go = o.go; apart = o.apart; front = o.front } }

pub returns-in-Some : goal.returns-in-Some
returns-in-Some c =
    let P : Option Capability → Type 0 = λ of. Reads (opening c.args.dir of) c.args.trace c.open_typed.result in
    subst P (sym c.in-Some.is) c.open_typed.ensures

pub returns-in-None : goal.returns-in-None
returns-in-None c =
    let P : Option Capability → Type 0 = λ of. Reads (opening c.args.dir of) c.args.trace c.open_dir.result in
    subst P (sym c.in-None.is) c.open_dir.ensures
