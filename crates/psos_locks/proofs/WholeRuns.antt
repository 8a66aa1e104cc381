-- A run of threads at its end is a run from boot, whole where it was not stopped. States docs/levels.md, "Phases", and docs/promises.md, "Replays".
use Rattle.std.proofs.Common.{◌≡◌, ℕ, false, List, Option, Some, None, refl, sym, ap, ◌∙◌, inl, inr, subst, arith}
use Rattle.std.specs.Prelude.{slice_get, IfSome}
use Rattle.std.proofs.lemmas.Option.{same_Some, none-some, slice_get_cases}
use Rattle.psos_calls.specs.Language.Script.{Script, IsWellFormed}
use Rattle.psos_calls.specs.Language.User.{User}
use Rattle.psos_model.specs.Flat.Boot.{boot}
use Rattle.psos_model.specs.Run.{has_left, is_open, phase_of}
use Rattle.psos_model.specs.Replay.{System, boot_system, replay_from, order_of}
use Rattle.psos_events.proofs.EventConditions.{boot_is_core_start}
use Rattle.psos_core.specs.declared.levels.Levels.{Levels}
use Rattle.psos_core.specs.declared.parts.Parts.{Parts}
use Rattle.psos_core.specs.System.{system_of}
use Rattle.psos_core.specs.Serving.{IsFrontFrom, IsWholeRun}
use Rattle.psos_core.proofs.WholeRuns.{front_of, run_of, whole_run}
use Rattle.psos_journal.specs.declared.stop_cause.StopCause.{StopCause}
use Rattle.psos_journal.specs.Members.{entries_of}
use Rattle.psos_histories.specs.Records.{order_in, replay_in}
use Rattle.psos_histories.proofs.Phases.{nobody_has_left}
use Rattle.psos_histories.proofs.RecordLimits.{records_have_users}
use Rattle.psos_locks.specs.Users.{UserView, AreUsers, AreOver}
use Rattle.psos_locks.specs.Ends.{HasEnded, IsGiven, HasRun}

module _ {B : Type 0} (s : Script) (well : IsWellFormed s) (users : List UserView) (parts : Parts B) (are : AreUsers s users) (over : AreOver s users) (h : HasEnded s users parts) where
  abbrev now : System
  now = replay_in s (boot_system s) h.log

  -- the requests so far are a front of a run
  front : IsFrontFrom s (boot_system s) (boot s) parts.entries
  front = subst (IsFrontFrom s (boot_system s) (boot s)) (sym h.entries_are) (front_of s (boot_system s) (boot s) (entries_of h.log) (boot_is_core_start s well) h.recorded.legal h.recorded.replayed)

  -- a user of the replay has no open body, and asks nothing more
  nothing : ((i : ℕ) (u : UserView) → slice_get users i ≡ Some u → u.halted ≡ false) → (v : ℕ) (x : User) → slice_get now.users v ≡ Some x → (is_open x.frames ≡ false) × (phase_of s x ≡ None)
  nothing going v x here = elim (slice_get_cases users v).1 [
    | inl found ↦ subst (λ (o : User). (is_open o.frames ≡ false) × (phase_of s o ≡ None)) (same_Some found.0.who.own x (sym (h.own_parts v found.0 found.2) ∙ here)) (over going v found.0 found.2)
    | inr past ↦ absurd (omega (arith, past.0, are.all, records_have_users s (boot_system s) (boot s) h.log (boot_is_core_start s well) h.recorded v x here))
  ]

  -- the levels that are left are those of the replay, and nobody has a request left
  whole : ((i : ℕ) (u : UserView) → slice_get users i ≡ Some u → u.halted ≡ false) → (left : System) → left ≡ now → IsWholeRun s (λ order. Unit {0}) parts.entries left
  whole going left is =
      let order : order_of parts.entries ≡ order_in h.log = ap order_of h.entries_are in
      whole_run s left (λ order. Unit {0}) parts.entries (run_of s (boot_system s) (boot s) left (λ order. Unit {0}) parts.entries (boot_is_core_start s well) front tt (is ∙ ap (replay_from s (boot_system s)) (sym order))
      (λ u. ap (λ (y : System). has_left s y.users u) is ∙ nobody_has_left s now.users (nothing going) u))

pub has_run : {B : Type 0} (faults : B → ℕ) (s : Script) (users : List UserView) (parts : Parts B) → IsWellFormed s → AreUsers s users → AreOver s users → HasEnded s users parts
    → IsGiven faults parts.stopped parts.levels parts.store parts.store_faults → HasRun s parts
has_run {B = B} faults s users parts well are over h given = record { front = front s well users parts are over h; whole = by_levels parts.levels refl }
  where
    going : (cause : Option StopCause) → parts.stopped ≡ cause → (l : Levels B) → parts.levels ≡ Some l → IsGiven faults cause parts.levels parts.store parts.store_faults → parts.stopped ≡ None
    going None e l some g = e
    going (Some cause) e l some g = absurd (none-some l (sym g.0 ∙ some))

    by_levels : (levels : Option (Levels B)) → parts.levels ≡ levels → IfSome levels (λ (l : Levels B). IsWholeRun s (λ order. Unit {0}) parts.entries (system_of l))
    by_levels None e = tt
    by_levels (Some l) e = whole s well users parts are over h (h.going (going parts.stopped refl l e given)) (system_of l) (subst (λ (o : Option (Levels B)). IfSome o (λ (k : Levels B). system_of k ≡ now s well users parts are over h)) e h.levels_are)
