use Rattle.std.proofs.Common.{length}
use Rattle.psos_script.specs.Draft.{read}
use Rattle.psos_script.proofs.LineLoop.{HasRead}
use Rattle.psos_script.proofs.lines.read_lines.Given as goal

abbrev pub invariant-lines : goal.invariant-lines
invariant-lines l = HasRead l.bytes l.rest (read l.draft) l.number

abbrev pub decreases-lines : goal.decreases-lines
decreases-lines l = length l.rest
