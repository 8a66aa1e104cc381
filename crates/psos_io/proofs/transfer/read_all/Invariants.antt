use Rattle.std.proofs.Common.{◌-◌, vec_len}
use Rattle.psos_io.proofs.KnownBytes.{HasRead}
use Rattle.psos_io.proofs.transfer.read_all.Given as goal

abbrev pub invariant-pieces : goal.invariant-pieces
invariant-pieces g l =
    HasRead (g.I.Source.left l.initial.input) (g.I.Source.left l.input) l.bytes.items (g.I.Source.faults l.initial.input) (g.I.Source.faults l.input)

abbrev pub decreases-pieces : goal.decreases-pieces
decreases-pieces g l = 1048577 - vec_len l.bytes
