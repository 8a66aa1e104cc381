use Rattle.std.proofs.Common.{ap}
use Rattle.psos_levels_samples.proofs.TakenSlots.{taken-again}
use Rattle.psos_levels_samples.proofs.pages.again.Goals as goal

pub returns : goal.returns
returns c = rw (ap (λ r. r.0) c.in_ok-taken.ensures.done, ap (λ r. r.0) c.in_ok-freed.ensures.done) (taken-again c.args.pages.now.slots c.requires)
