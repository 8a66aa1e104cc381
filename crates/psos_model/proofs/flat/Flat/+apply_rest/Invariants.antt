use Rattle.std.proofs.Common.{length}
use Rattle.psos_model.proofs.flat.Flat.+apply_rest.Given as goal

abbrev pub decreases-apply_rest : goal.decreases-apply_rest
decreases-apply_rest l = length l.sure.now
