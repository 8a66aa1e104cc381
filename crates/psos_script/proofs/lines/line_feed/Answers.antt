use Rattle.std.proofs.Common.{rules}
use Rattle.psos_text.proofs.FirstPlaces.{first_is, none_is, is_byte}
use Rattle.psos_script.proofs.lines.line_feed.Goals as goal

pub returns-then-b-eq10-clause-at : goal.returns-then-b-eq10-clause-at
returns-then-b-eq10-clause-at c = first_is (is_byte 10) c.args.text.now c.bytes.i c.bytes-test.true (search rules) c.bytes.invariant

pub returns-clause-at : goal.returns-clause-at
returns-clause-at c = none_is (is_byte 10) c.args.text.now c.bytes.i c.bytes-test.false c.bytes.invariant
