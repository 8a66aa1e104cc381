use Rattle.std.proofs.Common.{ap}
use Rattle.psos_levels_samples.proofs.TakenSlots.{one-left, first-taken, second-taken}
use Rattle.psos_levels_samples.proofs.pages.two_slots.Goals as goal

pub act-requires-2 : goal.act-requires-2
act-requires-2 c = rw (ap (λ r. r.0) c.in_ok-first.ensures.done, c.in_ok-pages.ensures.free) (one-left 519)

pub returns-clause-first : goal.returns-clause-first
returns-clause-first c = rw (ap (λ r. r.0) c.in_ok-second.ensures.done, ap (λ r. r.0) c.in_ok-first.ensures.done, c.in_ok-pages.ensures.free) (first-taken 519)

pub returns-clause-second : goal.returns-clause-second
returns-clause-second c = rw (ap (λ r. r.0) c.in_ok-second.ensures.done, ap (λ r. r.0) c.in_ok-first.ensures.done, c.in_ok-pages.ensures.free) (second-taken 519)
