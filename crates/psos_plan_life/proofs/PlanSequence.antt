-- Parts of plans behind one another.
use Rattle.std.proofs.Common.{◌≡◌, List, Result, Ok, Err, sym, ap, ◌∙◌}
use Rattle.psos_calls.specs.declared.step.Step.{Step}
use Rattle.psos_calls.specs.declared.next.Next.{Next}
use Rattle.psos_calls.specs.Plan.{Plan}
use Rattle.psos_calls.specs.Plan.Parts.{Opened}
use Rattle.psos_calls.specs.Plan.Trace.{followed, next_of}
use Rattle.psos_plan_life.specs.Parts.{Gives, Stops, Tells}
use Rattle.psos_plan_dir.specs.Reads.{Reader, IsRead, IsNext}

-- what comes next behind a part that is past comes next
pub passed : {X : Type 0} {part : (X → Plan) → Plan} {trace : List Step} {x : X} {rest : List Step} {next : Next}
    → Gives part trace x rest → (go : X → Plan) → next ≡ next_of (followed (go x) rest) → next ≡ next_of (followed (part go) trace)
passed g go e = e ∙ ap next_of (sym (g.goes_on go))

-- a part, and one behind it that is past too
pub both_given : {X Y : Type 0} {part : (X → Plan) → Plan} {trace mid rest : List Step} {x : X} {y : Y} (behind : X → (Y → Plan) → Plan)
    → Gives part trace x mid → Gives (behind x) mid y rest → Gives (λ go. part (λ x. behind x go)) trace y rest
both_given behind g h = record { goes_on = λ go. g.goes_on (λ x. behind x go) ∙ h.goes_on go }

-- a part that is past, and one behind it that is not
pub second_stops : {X Y : Type 0} {part : (X → Plan) → Plan} {trace mid : List Step} {x : X} {next : Next} (behind : X → (Y → Plan) → Plan)
    → Gives part trace x mid → Stops (behind x) mid next → Stops (λ go. part (λ x. behind x go)) trace next
second_stops behind g h = record { comes = λ go. passed g (λ x. behind x go) (h.comes go) }

-- a part that is not past, and one behind it
pub first_stops : {X Y : Type 0} {part : (X → Plan) → Plan} {trace : List Step} {next : Next} (behind : X → (Y → Plan) → Plan)
    → Stops part trace next → Stops (λ go. part (λ x. behind x go)) trace next
first_stops behind h = record { comes = λ go. h.comes (λ x. behind x go) }

-- the last part, behind a part that is past
pub last_part : {X : Type 0} {part : (X → Plan) → Plan} {trace mid : List Step} {x : X} (behind : X → (Unit {0} → Plan) → Plan) (r : Result (List Step) Next)
    → Gives part trace x mid → Tells (behind x) mid r → Tells (λ go. part (λ x. behind x go)) trace r
last_part behind (Ok rest) g h = both_given behind g h
last_part behind (Err n) g h = second_stops behind g h

-- a directory that was read is a part that is past, and one that was not is none
pub read_gives : {reads : Reader} {trace : List Step} {d : Opened} {rest : List Step} → IsRead reads trace d rest → Gives reads trace d rest
read_gives h = record { goes_on = λ go. h.is go }

pub next_stops : {reads : Reader} {trace : List Step} {next : Next} → IsNext reads trace next → Stops reads trace next
next_stops h = record { comes = λ go. sym (h.is go) }
