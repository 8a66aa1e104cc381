use Rattle.psos_print.proofs.Pieces.{begun_front, begun_same}
use Rattle.psos_print.proofs.transcript.write_piece.Goals as goal

pub returns-then-is_err-clause-err : goal.returns-then-is_err-clause-err
returns-then-is_err-clause-err g c = begun_same _ _ _ _ (begun_front _ _ _ c.put_all.ensures.front) c.deref.ensures.value
