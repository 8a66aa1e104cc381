use Rattle.std.proofs.Common.{rules, rules}
use Rattle.psos_text.proofs.FirstPlaces.{first_is, none_is, is_byte}
use Rattle.psos_check.proofs.cuts.first_at.Goals as goal

pub returns-then-b-sep-clause-at : goal.returns-then-b-sep-clause-at
returns-then-b-sep-clause-at c = first_is (is_byte c.args.sep) c.args.text.now c.bytes.i c.bytes-test.true (search rules) c.bytes.invariant

pub returns-clause-at : goal.returns-clause-at
returns-clause-at c = none_is (is_byte c.args.sep) c.args.text.now c.bytes.i c.bytes-test.false c.bytes.invariant
