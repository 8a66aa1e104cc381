use Rattle.std.proofs.Common.{sym, ap, ◌∙◌}
use Rattle.psos_model.proofs.UndoneChanges.{edit_same, on_err, renamed}
use Rattle.psos_table.specs.Table.{edit}
use Rattle.psos_model.proofs.rows.put_entry.Goals as goal

pub returns-in-Some-clause-err : goal.returns-in-Some-clause-err
returns-in-Some-clause-err c =
    let m = c.args.dirs.now in
    let row = c.in-Some.row.now in
    on_err c.put.result (λ same. c.get_mut.follows.holds (renamed row c.put.new.self) ∙ (ap (λ n. edit m c.args.dir (λ _. renamed row n)) same ∙ edit_same m c.args.dir row (sym c.in-Some.ensures.value))) c.put.ensures.err
