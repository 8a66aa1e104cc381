use Rattle.psos_load.proofs.LinesLeft.{IsLeft}
use Rattle.psos_load.proofs.script.put_lines.Given as goal

-- what was written and the lines that are left are all of them
abbrev pub invariant-lines : goal.invariant-lines
invariant-lines l = IsLeft l.fn.lines l._number l.initial.turns l.turns l.initial.out.items l.out.items
