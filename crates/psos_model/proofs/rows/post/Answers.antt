use Rattle.std.proofs.Common.{sym, ap, ◌∙◌}
use Rattle.psos_model.proofs.UndoneChanges.{edit_same, on_err}
use Rattle.psos_table.specs.Table.{edit}
use Rattle.psos_model.proofs.rows.post.Goals as goal

pub returns-in-Some-clause-err : goal.returns-in-Some-clause-err
returns-in-Some-clause-err c =
    let m = c.args.boxes.now in
    let row = c.in-Some.row.now in
    on_err c.post.result (λ same. c.get_mut.follows.holds c.post.new.self ∙ (ap (λ w. edit m c.args.uid (λ _. w)) same ∙ edit_same m c.args.uid row (sym c.in-Some.ensures.value))) c.post.ensures.err
