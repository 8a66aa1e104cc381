use Rattle.std.proofs.Common.{◌<◌, length, arith}
use Rattle.psos_print.proofs.Pieces.{left_more, left_begun, on_err}
use Rattle.psos_print.proofs.LinesByUser.{lines_next, all_at}
use Rattle.psos_print.proofs.transcript.put_entries.Goals as goal

pub returns-in_err-put_entry-clause-err : goal.returns-in_err-put_entry-clause-err
returns-in_err-put_entry-clause-err g c =
    let i = c.positions.position-index in
    let within : i < length c.args.positions.now = omega arith in
    let next = lines_next c.args.name.now c.args.entries.now c.args.positions.now i c.index-entries-position.result within (all_at _ c.args.positions.now i c.requires.within within) c.index-entries-position.is in
    on_err _ (left_begun _ _ _ _ _ _ _ _ _ _ _ c.positions.invariant next c.in_err-put_entry.ensures.err)

pub positions-preserved : goal.positions-preserved
positions-preserved g c =
    let i = c.positions.position-index in
    let within : i < length c.args.positions.now = omega arith in
    let next = lines_next c.args.name.now c.args.entries.now c.args.positions.now i c.index-entries-position.result within (all_at _ c.args.positions.now i c.requires.within within) c.index-entries-position.is in
    left_more _ _ _ _ _ _ _ _ _ _ _ _ _ c.positions.invariant next c.in_ok-put_entry.ensures.ok c.in_ok-put_entry.ensures.later
