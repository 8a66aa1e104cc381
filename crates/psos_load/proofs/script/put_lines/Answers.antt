use Rattle.psos_load.proofs.LinesLeft.{left_next}
use Rattle.psos_load.proofs.script.put_lines.Goals as goal

pub lines-preserved : goal.lines-preserved
lines-preserved c = left_next c.lines-test.true c.draw.ensures.drawn c.draw.ensures.told c.in_ok-put_line.ensures c.lines.invariant
