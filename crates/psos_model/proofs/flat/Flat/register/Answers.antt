use Rattle.std.proofs.Common.{sym, ap, ◌∙◌}
use Rattle.psos_table.specs.Table.{has}
use Rattle.psos_model.specs.Flat.Undo.{put_back}
use Rattle.psos_model.proofs.UndoneChanges.{put_back_is}
use Rattle.psos_model.proofs.Registration.{has_put, from_err, same_told}
use Rattle.psos_model.proofs.flat.Flat.register.Goals as goal

pub put_back-requires : goal.put_back-requires
put_back-requires c = ap (λ m. has m c.args.uid) c.in_ok-put.ensures.ok ∙ has_put c.args.self.now.life c.args.uid c.args.kind

pub returns-then-is_err-clause-err : goal.returns-then-is_err-clause-err
returns-then-is_err-clause-err c =
    let f = c.args.self.now in
    let dirs = from_err c.put_entry.result c.put_entry.ensures.err (sym c.if-is_err.ensures.value) in
    let was = c.copied-was.ensures ∙ c.get.ensures in
    let life = c.put_back.ensures ∙ (ap (λ m. put_back m c.args.uid c.copied-was.result) c.in_ok-put.ensures.ok ∙ (ap (put_back _ c.args.uid) was ∙ put_back_is f.life c.args.uid c.args.kind)) in
    same_told f c.put_entry.new.dirs c.put_back.new.table dirs life
