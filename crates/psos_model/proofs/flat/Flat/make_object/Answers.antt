use Rattle.std.proofs.Common.{sym, ap, ◌∙◌}
use Rattle.psos_table.specs.Table.{has}
use Rattle.psos_model.specs.Flat.Undo.{put_back}
use Rattle.psos_model.proofs.UndoneChanges.{put_back_is}
use Rattle.psos_model.proofs.Registration.{has_put, from_err, same_made}
use Rattle.psos_model.proofs.flat.Flat.make_object.Goals as goal

pub put_back-requires : goal.put_back-requires
put_back-requires c = ap (λ m. has m c.args.uid) c.in_ok-put.ensures.ok ∙ has_put c.args.self.now.objects c.args.uid c.args.object

pub returns-then-is_err-clause-err : goal.returns-then-is_err-clause-err
returns-then-is_err-clause-err c =
    let f = c.args.self.now in
    let segments = from_err c.make_segment.result c.make_segment.ensures.err (sym c.if-is_err.ensures.value) in
    let objects = c.put_back.ensures ∙ (ap (λ m. put_back m c.args.uid c.get-was.result) c.in_ok-put.ensures.ok ∙ (ap (put_back _ c.args.uid) c.get-was.ensures ∙ put_back_is f.objects c.args.uid c.args.object)) in
    same_made f c.make_segment.new.segments c.put_back.new.self segments objects
