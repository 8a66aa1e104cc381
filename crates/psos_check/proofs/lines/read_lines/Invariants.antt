use Rattle.std.proofs.Common.{length}
use Rattle.psos_check.proofs.LineLoop.{HasSaid}
use Rattle.psos_check.proofs.lines.read_lines.Given as goal

abbrev pub invariant-lines : goal.invariant-lines
invariant-lines l = HasSaid l.script l.text l.rest l.said.items l.number

abbrev pub decreases-lines : goal.decreases-lines
decreases-lines l = length l.rest
