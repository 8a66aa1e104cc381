use Rattle.std.proofs.Common.{rules, sym, ◌∙◌}
use Rattle.psos_check.proofs.LineLoop.{one_line, done_behind, stray_line, stray_end}
use Rattle.psos_check.proofs.lines.read_lines.Goals as goal

pub returns-then-ends : goal.returns-then-ends
returns-then-ends c = (
  c.requires.few,
  done_behind c.args.script.now c.args.text.now c.lines.rest.now c.in-Some.line.now c.in-Some.after.now c.lines.said.items c.lines.number c.in-Some.ensures.parts (sym c.ends.ensures ∙ c.if-ends.true) c.lines.invariant,
)

pub returns-in-None : goal.returns-in-None
returns-in-None c = (
  c.requires.few,
  stray_line c.args.script.now c.args.text.now c.lines.rest.now c.in-Some.line.now c.in-Some.after.now c.lines.said.items c.lines.number c.requires.script c.in-Some.ensures.parts c.in-None.ensures (sym c.ends.ensures ∙ c.if-ends.false) c.lines.invariant,
)

pub lines-preserved : goal.lines-preserved
lines-preserved c =
    one_line c.args.script.now c.args.text.now c.lines.rest.now c.in-Some.line.now c.in-Some.after.now c.lines.said.items c.push.new.self.items c.in-Some-user_line.stamped c.lines.number
    c.in-Some.ensures.parts c.in-Some-user_line.ensures (search rules) c.in-Some.ensures.shorter c.lines.invariant

pub returns : goal.returns
returns c = (c.requires.few, stray_end c.args.script.now c.args.text.now c.lines.rest.now c.lines.said.items c.lines.number c.in_default.ensures.parts c.lines.invariant)
