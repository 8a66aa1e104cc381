use Rattle.std.proofs.Common.{ap}
use Rattle.psos_levels_samples.proofs.TakenSlots.{taken-put}
use Rattle.psos_levels_samples.proofs.pages.put_four.Goals as goal

pub returns : goal.returns
returns c = rw (ap (λ r. r.0) c.in_ok-done.ensures.done) (taken-put c.args.pages.now.slots 1 _ c.requires)
