use Rattle.std.proofs.Common.{rules, arith}
use Rattle.psos_script.proofs.LineLoop.{last_line, ended_line}
use Rattle.psos_script.proofs.lines.next_line.Goals as goal

pub returns-then-is_empty-2-clause-lines : goal.returns-then-is_empty-2-clause-lines
returns-then-is_empty-2-clause-lines c = last_line c.args.text.now c.split_at.result.0.now c.split_at.result.1.now c.line_feed.result (grind arith) c.line_feed.ensures.at c.split_at.ensures.front c.split_at.ensures.back (search rules)

pub returns-clause-lines : goal.returns-clause-lines
returns-clause-lines c = ended_line c.args.text.now c.split_at.result.0.now c.split_at.result.1.now c.split_at-2.result.1.now c.line_feed.result (grind arith) c.line_feed.ensures.at c.split_at.ensures.front c.split_at.ensures.back c.split_at-2.ensures.back
