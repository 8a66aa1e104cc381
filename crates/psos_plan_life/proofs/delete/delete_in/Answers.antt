use Rattle.std.proofs.Common.{ℕ, sym, subst}
use Rattle.psos_calls.specs.Plan.Trace.{IsTraceOf}
use Rattle.psos_plan_life.specs.Deletion.{kind_dropped, forgotten}
use Rattle.psos_plan_life.proofs.PlanSequence.{passed}
use Rattle.psos_plan_life.proofs.DeletePlan.{After}
use Rattle.psos_plan_life.proofs.delete.delete_in.Goals as goal

pub kind_gone-requires : goal.kind_gone-requires
kind_gone-requires c =
    let f = c.requires.front in
    let p = c.in-Ok.picked in
    let entry = c.in-Ok.ensures.entry in
    let d = c.args.dir.now in
    let both = c.in-Ok.ensures.front f.levels (After d) f.front in
    let P : ℕ → Type 0 = λ u. IsTraceOf (kind_dropped p.0.1 u (λ _. forgotten d entry.found)) f.levels p.1 in
    record { levels = f.levels; lists = f.lists; go = λ _. forgotten d entry.found; front = subst P (sym entry.names) both.0; live = both.1 }

pub returns-in-Ok-kind_gone : goal.returns-in-Ok-kind_gone
returns-in-Ok-kind_gone c =
    let entry = c.in-Ok.ensures.entry in
    let d = c.args.dir.now in
    let gone = rw entry.names at c.in-Ok-kind_gone.ensures in
    passed c.in-Ok.ensures.gives (After d) (passed gone (λ _. forgotten d entry.found) (c.forget.ensures entry.found entry.is))

pub returns-in-Err-kind_gone : goal.returns-in-Err-kind_gone
returns-in-Err-kind_gone c =
    let entry = c.in-Ok.ensures.entry in
    let d = c.args.dir.now in
    let stops = rw entry.names at c.in-Err-kind_gone.ensures in
    passed c.in-Ok.ensures.gives (After d) (stops.comes (λ _. forgotten d entry.found))
