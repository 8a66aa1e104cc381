use Rattle.std.proofs.Common.{drop}
use Rattle.psos_print.specs.Positions.{lines_at}
use Rattle.psos_print.proofs.Pieces.{HasLeft}
use Rattle.psos_print.proofs.transcript.put_entries.Given as goal

abbrev pub invariant-positions : goal.invariant-positions
invariant-positions g l =
    HasLeft (g.K.Sink.took l.initial.out) (g.K.Sink.took l.out) l.initial.piece.items l.piece.items (lines_at l.name l.entries (drop l.position-index l.positions)) (lines_at l.name l.entries l.positions) (g.K.Sink.faults l.initial.out) (g.K.Sink.faults l.out)
