use Rattle.std.proofs.Common.{refl}
use Rattle.std.proofs.lemmas.Result.{err_from_is_err_and}
use Rattle.psos_plan_life.specs.Parts.{object_dropped}
use Rattle.psos_plan_life.proofs.PlanSequence.{first_stops, second_stops, last_part, next_stops, read_gives}
use Rattle.psos_plan_life.proofs.DeletePlan.{Inner, emptied_apart}
use Rattle.psos_plan_life.proofs.removal.directory_gone.Goals as goal

pub read_dir-requires : goal.read_dir-requires
read_dir-requires c =
    let r = c.requires in
    let u = c.args.uid.0 in
    let live = r.lists.kinds u (r.live refl) in
    record {
      levels = r.levels;
      front = record { lists = r.lists; go = λ d. Inner u d r.go; apart = λ d. emptied_apart d u (λ _. object_dropped u r.go); front = r.front };
      guard = live.0;
      live = live.1;
    }

pub returns-in-Next : goal.returns-in-Next
returns-in-Next c = first_stops (Inner c.args.uid.0) (next_stops c.in-Next.ensures)

pub empty_gone-requires : goal.empty_gone-requires
empty_gone-requires c =
    let r = c.requires in
    let u = c.args.uid.0 in
    record { levels = r.levels; go = λ _. object_dropped u r.go; front = c.in-Done.ensures.front r.levels (λ d. Inner u d r.go) r.front }

pub returns-in_err-trace : goal.returns-in_err-trace
returns-in_err-trace c =
    let u = c.args.uid.0 in
    let p = err_from_is_err_and c.from_residual.result c.from_residual.ensures.1 in
    rw (p.1, p.2) (second_stops (Inner u) (read_gives c.in-Done.ensures) (first_stops (λ _. object_dropped u) c.in_err-trace.ensures))

pub returns : goal.returns
returns c =
    let u = c.args.uid.0 in
    last_part (Inner u) c.object_gone.result (read_gives c.in-Done.ensures) (last_part (λ _. object_dropped u) c.object_gone.result c.in_ok-trace.ensures c.object_gone.ensures)
