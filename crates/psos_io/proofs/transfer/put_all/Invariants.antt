use Rattle.std.proofs.Common.{◌-◌, length}
use Rattle.psos_io.proofs.KnownBytes.{HasWritten}
use Rattle.psos_io.proofs.transfer.put_all.Given as goal

abbrev pub invariant-pieces : goal.invariant-pieces
invariant-pieces g l =
    HasWritten (g.K.Sink.took l.initial.output) (g.K.Sink.took l.output) l.text l.done (g.K.Sink.faults l.initial.output) (g.K.Sink.faults l.output)

abbrev pub decreases-pieces : goal.decreases-pieces
decreases-pieces g l = length l.text - l.done
