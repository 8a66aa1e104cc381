use Rattle.std.proofs.Common.{rules, arith}
use Rattle.psos_text.proofs.WordLaws.{no_word, a_word}
use Rattle.psos_text.proofs.finds.first_word.Goals as goal

pub returns-then-is_empty-clause-none : goal.returns-then-is_empty-clause-none
returns-then-is_empty-clause-none c = no_word c.args.text.now c.split_at.result.1.now c.first_other-place.result c.first_other-place.ensures.at c.split_at.ensures.back (search rules)

pub returns-clause-some : goal.returns-clause-some
returns-clause-some c = a_word c.args.text.now c.split_at.result.1.now c.first_other-place.result c.first_at.result c.first_other-place.ensures.at c.split_at.ensures.back (grind arith) c.first_at.ensures.at
