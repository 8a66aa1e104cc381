-- What a run of threads leaves.
use Rattle.std.proofs.Common.{◌≡◌, ℕ, List, Option, Some, None, refl, sym}
use Rattle.std.specs.Prelude.{IfSome, IsSomeAnd, option_map}
use Rattle.psos_calls.specs.declared.entry.Entry.{Entry}
use Rattle.psos_calls.specs.Language.Script.{Script, IsWellFormed}
use Rattle.psos_model.specs.Replay.{System, order_of}
use Rattle.psos_journal.specs.declared.stop_cause.StopCause.{StopCause}
use Rattle.psos_journal.specs.declared.stop_cause.StopCause.TheVariants.{Store}
use Rattle.psos_core.specs.declared.levels.Levels.{Levels}
use Rattle.psos_core.specs.declared.parts.Parts.{Parts}
use Rattle.psos_core.specs.System.{system_of}
use Rattle.psos_core.specs.Serving.{IsWholeRun}
use Rattle.psos_locks.specs.Ends.{HasRun, IsGiven, CountsFaults}
use Rattle.psos_top.specs.declared.command.Command.TheVariants.{Run}
use Rattle.psos_top.specs.Orders.{IsRunBy}
use Rattle.psos_top.specs.Outcome.{AreLeft}
use Rattle.psos_top.specs.Runs.{IsLeftBy}
use Rattle.psos_top.proofs.RunsLeft.{so_far}

-- a whole run in any order is one by the command
run_by : (s : Script) (entries : List Entry) (left : System) → IsWholeRun s (λ order. Unit {0}) entries left → IsRunBy Run s entries left
run_by s entries left h = record {
  complete = h.complete;
  faithful = h.faithful;
  ordered = tt;
  few = h.few;
  replayed = h.replayed;
  stands = h.stands;
  lawful = h.lawful;
}

-- levels that are given are those of a whole run
left_by : {B : Type 0} (s : Script) (entries : List Entry) (levels : Option (Levels B)) → IfSome levels (λ (l : Levels B). IsWholeRun s (λ order. Unit {0}) entries (system_of l))
    → IfSome (option_map (λ (l : Levels B). system_of l) levels) (AreLeft s (order_of entries))
left_by s entries None h = tt
left_by s entries (Some l) h = record { replayed = h.replayed; stands = h.stands }

whole_by : {B : Type 0} (faults : B → ℕ) (s : Script) (entries : List Entry) (stopped : Option StopCause) (levels : Option (Levels B)) (store : Option B) (count : ℕ) → IsGiven faults stopped levels store count
    → IfSome levels (λ (l : Levels B). IsWholeRun s (λ order. Unit {0}) entries (system_of l)) → stopped ≡ None → IsSomeAnd levels (λ (l : Levels B). IsRunBy Run s entries (system_of l))
whole_by faults s entries None None store count given h going = absurd (given.1 refl)
whole_by faults s entries None (Some l) store count given h going = run_by s entries (system_of l) h
whole_by faults s entries (Some cause) levels store count given h going = absurd (let e = going in cc)

-- where it was stopped, the levels are missing
gone_by : {B : Type 0} (faults : B → ℕ) (stopped : Option StopCause) (levels : Option (Levels B)) (store : Option B) (count : ℕ) → IsGiven faults stopped levels store count → stopped ≡ Some Store → levels ≡ None
gone_by faults None levels store count given is = absurd (let e = is in cc)
gone_by faults (Some cause) levels store count given is = given.0

-- where the store is given, the levels are missing
apart_by : {B : Type 0} (faults : B → ℕ) (stopped : Option StopCause) (levels : Option (Levels B)) (store : Option B) (count : ℕ) → IsGiven faults stopped levels store count → IfSome store (λ b. levels ≡ None)
apart_by faults stopped levels None count given = tt
apart_by faults None levels (Some b) count given = absurd (let e = given.0 in cc)
apart_by faults (Some cause) levels (Some b) count given = given.0

-- levels that are given have the count
within_by : {B : Type 0} (faults : B → ℕ) (stopped : Option StopCause) (levels : Option (Levels B)) (store : Option B) (count : ℕ) → IsGiven faults stopped levels store count
    → IfSome levels (λ (l : Levels B). count ≡ faults l.pages.store)
within_by faults stopped None store count h = tt
within_by faults None (Some l) store count h = sym h.2
within_by faults (Some cause) (Some l) store count h = absurd (let e = h.0 in cc)

-- and else the store has it
back_by : {B : Type 0} (faults : B → ℕ) (stopped : Option StopCause) (levels : Option (Levels B)) (store : Option B) (count : ℕ) → IsGiven faults stopped levels store count → levels ≡ None
    → IsSomeAnd store (λ b. count ≡ faults b)
back_by faults None levels store count h none = absurd (h.1 none)
back_by faults (Some cause) levels None count h none = absurd (h.1 refl)
back_by faults (Some cause) levels (Some b) count h none = sym h.2

pub threads_left : {B : Type 0} (faults : B → ℕ) (s : Script) (start : ℕ) (parts : Parts B) → IsWellFormed s → HasRun s parts → IsGiven faults parts.stopped parts.levels parts.store parts.store_faults
    → CountsFaults start parts.store_faults parts.stopped → IsLeftBy faults start Run s parts
threads_left faults s start parts formed ran given counted = record {
  so_far = so_far s parts.entries _ formed ran.front (left_by s parts.entries parts.levels ran.whole);
  whole = whole_by faults s parts.entries parts.stopped parts.levels parts.store parts.store_faults given ran.whole;
  gone = gone_by faults parts.stopped parts.levels parts.store parts.store_faults given;
  within = within_by faults parts.stopped parts.levels parts.store parts.store_faults given;
  back = back_by faults parts.stopped parts.levels parts.store parts.store_faults given;
  apart = apart_by faults parts.stopped parts.levels parts.store parts.store_faults given;
  later = counted.later;
  rose = counted.rose;
}
