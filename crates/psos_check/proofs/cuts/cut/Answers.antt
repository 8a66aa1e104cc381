use Rattle.std.proofs.Common.{rules, arith}
use Rattle.psos_check.proofs.CutLaws.{code_found, code_missed}
use Rattle.psos_check.proofs.cuts.cut.Goals as goal

pub returns-then-is_empty-clause-parts : goal.returns-then-is_empty-clause-parts
returns-then-is_empty-clause-parts c = code_missed c.args.sep c.args.text.now c.split_at.result.1.now c.first_at.result c.first_at.ensures.at (search rules) c.split_at.ensures.back_len

pub returns-clause-parts : goal.returns-clause-parts
returns-clause-parts c = code_found c.args.sep c.args.text.now c.split_at.result.0.now c.split_at.result.1.now c.split_at-2.result.1.now c.first_at.result c.first_at.ensures.at c.split_at.ensures.front c.split_at.ensures.back (grind arith) (omega (arith, c.split_at.ensures.back_len)) c.split_at-2.ensures.back
