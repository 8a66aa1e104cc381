use Rattle.std.proofs.Common.{◌/◌, ap}
use Rattle.psos_levels_samples.proofs.TakenSlots.{taken-put}
use Rattle.psos_levels_samples.proofs.pages.put.Goals as goal

pub returns : goal.returns
returns c = rw (ap (λ r. r.0) c.in_ok-done.ensures.done) (taken-put c.args.pages.now.slots (c.args.page / 8) _ c.requires.taken)
