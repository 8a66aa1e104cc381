use Rattle.psos_print.proofs.Pieces.{front_begun, begun_same, last_front}
use Rattle.psos_print.proofs.LinesByUser.{text_is}
use Rattle.psos_print.proofs.transcript.put_transcript.Goals as goal

pub returns-in_err-put_users-clause-front : goal.returns-in_err-put_users-clause-front
returns-in_err-put_users-clause-front g c =
    let is = text_is c.args.script.now _ c.args.entries.now _ _ c.users-users.ensures c.as_slice-entries.ensures.items c.in-Ok-with_capacity.ensures.items in
    front_begun _ _ _ (begun_same _ _ _ _ c.in_err-put_users.ensures.err is)

pub returns-clause-front : goal.returns-clause-front
returns-clause-front g c =
    let is = text_is c.args.script.now _ c.args.entries.now _ _ c.users-users.ensures c.as_slice-entries.ensures.items c.in-Ok-with_capacity.ensures.items in
    last_front c.write_piece.result _ _ _ _ _ _ _ c.in_ok-put_users.ensures.ok is c.write_piece.ensures.ok c.write_piece.ensures.err
