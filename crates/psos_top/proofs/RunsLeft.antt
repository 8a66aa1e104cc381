-- What a run on one thread left.
use Rattle.std.proofs.Common.{◌≡◌, ℕ, List, Option, Some, None, sym, ap, ◌∙◌, subst, arith}
use Rattle.std.specs.Prelude.{Result, Ok, Err, OnOk, IfErr, IfSome, IsSomeAnd, option_map}
use Rattle.psos_io.specs.Causes.{Rose}
use Rattle.psos_calls.specs.declared.entry.Entry.{Entry}
use Rattle.psos_calls.specs.Language.Script.{Script, IsWellFormed}
use Rattle.psos_model.specs.Flat.Boot.{boot}
use Rattle.psos_model.specs.Replay.{System, boot_system, order_of}
use Rattle.psos_laws.proofs.BootSoundness.{boot_start}
use Rattle.psos_laws.proofs.PlacesRuns.{runs_are_lawful}
use Rattle.psos_journal.specs.declared.stop_cause.StopCause.{StopCause}
use Rattle.psos_journal.specs.declared.stop_cause.StopCause.TheVariants.{Store}
use Rattle.psos_core.specs.declared.levels.Levels.{Levels}
use Rattle.psos_core.specs.declared.parts.Parts.{Parts}
use Rattle.psos_core.specs.System.{system_of}
use Rattle.psos_core.specs.Serving.{IsFrontFrom, IsRunFrom}
use Rattle.psos_core.specs.Faults.{MayStop}
use Rattle.psos_core.specs.Parts.{levels_of_stop, store_of_stop}
use Rattle.psos_core.proofs.RunsFromBoot.{from_boot}
use Rattle.psos_top.specs.declared.command.Command.{Command}
use Rattle.psos_top.specs.Orders.{IsOrderFrom, IsRunBy}
use Rattle.psos_top.specs.Outcome.{AreLeft, IsSoFar}
use Rattle.psos_top.specs.Runs.{IsLeftBy}
use Rattle.psos_top.proofs.AskedCommands.{not_none, same}

-- a front of a run from boot is the run so far
pub so_far : (s : Script) (entries : List Entry) (left : Option System) → IsWellFormed s → IsFrontFrom s (boot_system s) (boot s) entries → IfSome left (AreLeft s (order_of entries)) → IsSoFar s entries left
so_far s entries left formed front levels = record {
  legal = front.legal;
  faithful = record { replayed = front.recorded; answered = front.answered };
  lawful = runs_are_lawful s (boot s) (order_of entries) formed (boot_start s formed).sound;
  stands = levels;
}

left_by : {B T : Type 0} (faults : B → ℕ) (start : ℕ) (command : Command) (s : Script) (l : Levels B) (parts : Parts B) (stop : Option StopCause) (result : Result T StopCause)
    → IsWellFormed s → IsFrontFrom s (boot_system s) (boot s) parts.entries → OnOk result (IsRunBy command s parts.entries (system_of l)) → OnOk result (stop ≡ None) → IfErr result (λ cause. stop ≡ Some cause)
    → MayStop start (faults l.pages.store) result → parts.levels ≡ levels_of_stop stop l → parts.store ≡ store_of_stop stop l.pages.store
    → parts.store_faults ≡ faults l.pages.store → parts.stopped ≡ stop → IsLeftBy faults start command s parts
left_by {B} faults start command s l parts stop (Ok x) formed front run going stopped may levels store count cause =
    let given : parts.levels ≡ Some l = levels ∙ ap (λ o. levels_of_stop o l) going in
    let none : parts.store ≡ None = store ∙ ap (λ o. store_of_stop o l.pages.store) going in
    let P : Option (Levels B) → Type 0 = λ o. IfSome (option_map (λ (k : Levels B). system_of k) o) (AreLeft s (order_of parts.entries)) in
    let Q : Option (Levels B) → Type 0 = λ o. IsSomeAnd o (λ (k : Levels B). IsRunBy command s parts.entries (system_of k)) in
    let R : Option (Levels B) → Type 0 = λ o. IfSome o (λ (k : Levels B). parts.store_faults ≡ faults k.pages.store) in
    let S : Option B → Type 0 = λ o. IfSome o (λ b. parts.levels ≡ None) in
    record {
      so_far = so_far s parts.entries _ formed front (subst P (sym given) (record { replayed = run.replayed; stands = run.stands }));
      whole = λ h. subst Q (sym given) run;
      gone = λ is. absurd (not_none parts.stopped Store is (cause ∙ going));
      within = subst R (sym given) count;
      back = λ h. absurd (not_none parts.levels l given h);
      apart = subst S (sym none) tt;
      later = omega (arith, count, may.later);
      rose = λ is. absurd (not_none parts.stopped Store is (cause ∙ going));
    }
left_by {B} faults start command s l parts stop (Err e) formed front run going stopped may levels store count cause =
    let none : parts.levels ≡ None = levels ∙ ap (λ o. levels_of_stop o l) stopped in
    let back : parts.store ≡ Some l.pages.store = store ∙ ap (λ o. store_of_stop o l.pages.store) stopped in
    let P : Option (Levels B) → Type 0 = λ o. IfSome (option_map (λ (k : Levels B). system_of k) o) (AreLeft s (order_of parts.entries)) in
    let R : Option (Levels B) → Type 0 = λ o. IfSome o (λ (k : Levels B). parts.store_faults ≡ faults k.pages.store) in
    let S : Option B → Type 0 = λ o. IsSomeAnd o (λ b. parts.store_faults ≡ faults b) in
    let T : Option B → Type 0 = λ o. IfSome o (λ b. parts.levels ≡ None) in
    record {
      so_far = so_far s parts.entries _ formed front (subst P (sym none) tt);
      whole = λ h. absurd (not_none parts.stopped e (cause ∙ stopped) h);
      gone = λ is. none;
      within = subst R (sym none) tt;
      back = λ missing. subst S (sym back) count;
      apart = subst T (sym back) none;
      later = omega (arith, count, may.later);
      rose = λ is. subst (Rose start) (sym count) (may.store (same parts.stopped e Store (cause ∙ stopped) is));
    }

-- of a core that started at boot, where the script and the count at the start are told otherwise
pub left_from_boot : {B T : Type 0} (faults : B → ℕ) (begun start : ℕ) (command : Command) (s t : Script) (y : System) (l : Levels B) (entries : List Entry) (parts : Parts B) (stop : Option StopCause) (result : Result T StopCause)
    → t ≡ s → begun ≡ start → IsWellFormed s → y ≡ boot_system s → IsFrontFrom s y (boot s) entries → OnOk result (IsRunFrom s y (boot s) (IsOrderFrom command s y) entries (system_of l)) → OnOk result (stop ≡ None) → IfErr result (λ cause. stop ≡ Some cause)
    → MayStop begun (faults l.pages.store) result → parts.entries ≡ entries → parts.levels ≡ levels_of_stop stop l → parts.store ≡ store_of_stop stop l.pages.store
    → parts.store_faults ≡ faults l.pages.store → parts.stopped ≡ stop → IsLeftBy faults start command t parts
left_from_boot {B} {T} faults begun start command s t y l entries parts stop result is since formed booted front run going stopped may entries-are levels store count cause =
    let P : ℕ → Type 0 = λ n. IsLeftBy faults n command t parts in
    let Q : Script → Type 0 = λ x. IsLeftBy faults begun command x parts in
    let F : System → List Entry → Type 0 = λ z es. IsFrontFrom s z (boot s) es in
    let here : F (boot_system s) parts.entries = subst (F (boot_system s)) (sym entries-are) (subst (λ (z : System). F z entries) booted front) in
    subst P since (subst Q (sym is) (left_by faults begun command s l parts stop result formed here (by_result result run) going stopped may levels store count cause))
  where
    by_result : (r : Result T StopCause) → OnOk r (IsRunFrom s y (boot s) (IsOrderFrom command s y) entries (system_of l)) → OnOk r (IsRunBy command s parts.entries (system_of l))
    by_result (Ok x) run = subst (λ (es : List Entry). IsRunBy command s es (system_of l)) (sym entries-are) (from_boot s y (system_of l) (λ z. IsOrderFrom command s z) entries booted run)
    by_result (Err e) run = tt
