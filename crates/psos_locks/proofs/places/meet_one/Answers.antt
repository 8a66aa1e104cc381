use Rattle.std.proofs.Common.{Some, sym, ap, ◌∙◌}
use Rattle.std.specs.Sync.Mutex.{mutex_guard_with_value}
use Rattle.psos_locks.proofs.places.meet_one.Goals as goal

pub returns-in-Some-clause-same : goal.returns-in-Some-clause-same
returns-in-Some-clause-same g c = ap (λ w. Some (mutex_guard_with_value c.in-Some.held w)) (c.meet.ensures.same.1 ∙ c.deref_mut.ensures.value) ∙ sym c.in-Some.is
