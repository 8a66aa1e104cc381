use Rattle.std.proofs.Common.{arith, length-set, ◌∙◌}
use Rattle.psos_calls.specs.Language.User.{here}
use Rattle.psos_laws.proofs.WordLists.{one_more}
use Rattle.psos_laws.proofs.coming.registers.Goals as goal

pub registers-preserved : goal.registers-preserved
registers-preserved c = record {
  sixteen = length-set _ _ _ ∙ c.registers.invariant.sixteen;
  same = one_more c.registers.words (here c.args.me.now) c.registers.i c.here.result (omega arith) c.registers.invariant.same c.here.ensures.at;
}
