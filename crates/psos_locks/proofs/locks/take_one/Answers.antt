use Rattle.std.proofs.Common.{◌≡◌, refl, sym, ap, ◌∙◌, subst, Bool}
use Rattle.std.specs.Sync.Mutex.{mutex_guard_value}
use Rattle.psos_calls.specs.declared.entry.Entry.{Entry}
use Rattle.psos_model.specs.Replay.{boot_system}
use Rattle.psos_journal.specs.Views.{Side}
use Rattle.psos_histories.specs.Grips.{IsFreeGrip}
use Rattle.psos_locks.proofs.locks.take_one.Goals as goal

pub returns-clause-taken : goal.returns-clause-taken
returns-clause-taken g c e =
    let same : c.deref.result.now ≡ mutex_guard_value c.lock-held.result = c.deref.ensures in
    let P : g.row.K.Denot × Side Entry × Bool → Type 0 = λ h. IsFreeGrip g.T.Run.script (boot_system g.T.Run.script) (record { lock = g.K.Part.lock h.0; side = h.1; piece = g.K.Part.piece h.0; broken = h.2 }) in
    record {
      guard = c.lock-held.result;
      there = refl;
      free = subst P same c.is_broken.ensures.free;
      whole = ap (λ (h : g.row.K.Denot × Side Entry × Bool). h.2) (sym same) ∙ (sym c.is_broken.ensures.broken ∙ c.if-is_broken.false);
    }
