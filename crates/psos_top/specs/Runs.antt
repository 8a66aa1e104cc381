-- What a command read, and what its run left. States docs/program.md, "Commands" and "Statuses".
use Rattle.std.specs.Prelude.{◌≡◌, ℕ, ◌≤◌, ◌⊎◌, List, [], ◌++◌, length, Option, Some, None, option_map, Result, Ok, Err, IfOk, IfErr, IfSome, IsSomeAnd}
use Rattle.std.specs.Io.KnownBytes.{Appends}
use Rattle.psos_io.specs.Bytes.{AppendsFront}
use Rattle.psos_io.specs.Causes.{Rose}
use Rattle.psos_calls.specs.declared.entry.Entry.{Entry}
use Rattle.psos_calls.specs.Language.Script.{Script, IsWellFormed}
use Rattle.psos_model.specs.Flat.Boot.{boot}
use Rattle.psos_model.specs.Replay.{boot_system}
use Rattle.psos_model.specs.Text.Output.{calls_of, done_text}
use Rattle.psos_print.specs.declared.fault.PrintFault.{PrintFault}
use Rattle.psos_print.specs.declared.fault.PrintFault.TheVariants as prints
use Rattle.psos_print.specs.Positions.{entries_text}
use Rattle.psos_journal.specs.declared.stop_cause.StopCause.{StopCause}
use Rattle.psos_journal.specs.declared.stop_cause.StopCause.TheVariants.{Store, Memory}
use Rattle.psos_script.specs.declared.fault.ReadFault.{ReadFault}
use Rattle.psos_script.specs.declared.fault.ReadFault.TheVariants as R
use Rattle.psos_core.specs.declared.levels.Levels.{Levels}
use Rattle.psos_core.specs.declared.run.Core.{Core}
use Rattle.psos_core.specs.declared.parts.Parts.{Parts}
use Rattle.psos_core.specs.System.{system_of}
use Rattle.psos_core.specs.Events.{IsAfter}
use Rattle.psos_top.specs.declared.command.Command.{Command}
use Rattle.psos_top.specs.declared.open_fault.OpenFault.{OpenFault}
use Rattle.psos_top.specs.declared.open_fault.OpenFault.TheVariants as faults
use Rattle.psos_top.specs.Orders.{IsRunBy}
use Rattle.psos_top.specs.Outcome.{Stream, WasRead, IsFaulty, IsSoFar, Writes, stopped_text}

-- ---- what was read

-- why there is no script: the input failed; its bytes are no script, and this is their first fault; or memory was wanting
abbrev pub HasFault : Stream → OpenFault → Type 0
HasFault input faults.Input = Rose input.faults_before input.faults_now
HasFault input (faults.Script fault) = IsFaulty input.before fault.line fault.cause
HasFault input faults.Memory = Unit {0}

-- what the reader answers, as a command takes it
abbrev pub read_for_run : Result Script ReadFault → Result Script OpenFault
read_for_run (Ok s) = Ok s
read_for_run (Err (R.Script fault)) = Err (faults.Script fault)
read_for_run (Err (R.Memory e)) = Err faults.Memory

-- something was made of the script that was read, or there is none
pub record HasRead {T : Type 0} (script : T → Script) (input : Stream) (read : Result T OpenFault) : Type 0 where
  pub found : IfOk read (λ t. WasRead input.before input.now (script t))
  pub fault : IfErr read (HasFault input)
  pub later : input.faults_before ≤ input.faults_now

-- ---- what was run

-- a core stands at boot, and nothing was run
pub record IsAtBoot {B : Type 0} {g : _} (core : Core B g) : Type 0 where
  pub well_formed : IsWellFormed core.script
  pub booted : system_of core.levels ≡ boot_system core.script
  pub after : IsAfter core (record { system = system_of core.levels; flat = boot core.script }) []
  pub fresh : core.entries ≡ []
  pub going : core.stopped ≡ None

-- what a run left of its script: the requests that closed, and either the levels or the store with its count of faults. Where it was not stopped, it is whole, and the levels are there; where it was stopped for the store, they are not, and the count rose
pub record IsLeftBy {B : Type 0} (faults : B → ℕ) (start : ℕ) (command : Command) (s : Script) (parts : Parts B) : Type 0 where
  pub so_far : IsSoFar s parts.entries (option_map (λ (l : Levels B). system_of l) parts.levels)
  pub whole : parts.stopped ≡ None → IsSomeAnd parts.levels (λ (l : Levels B). IsRunBy command s parts.entries (system_of l))
  pub gone : parts.stopped ≡ Some Store → parts.levels ≡ None
  pub within : IfSome parts.levels (λ (l : Levels B). parts.store_faults ≡ faults l.pages.store)
  pub back : parts.levels ≡ None → IsSomeAnd parts.store (λ b. parts.store_faults ≡ faults b)
  pub apart : IfSome parts.store (λ b. parts.levels ≡ None)
  pub later : start ≤ parts.store_faults
  pub rose : parts.stopped ≡ Some Store → Rose start parts.store_faults

-- ---- what is printed of it

-- what is written of a text and a line behind it after a fault: a front of the text for want of memory, and else a front of both
abbrev pub LeavesFront : Stream → List ℕ → List ℕ → PrintFault → Type 0
LeavesFront out text line (prints.Memory e) = AppendsFront out.before out.now text
LeavesFront out text line prints.Write = AppendsFront out.before out.now (text ++ line)

-- so a run ends that was stopped for this cause, or not at all
abbrev pub IsStatusOf : Option StopCause → ℕ → Type 0
IsStatusOf None status = (status ≡ 0) ⊎ (status ≡ 4) ⊎ (status ≡ 6)
IsStatusOf (Some Store) status = (status ≡ 5) ⊎ (status ≡ 6)
IsStatusOf (Some Memory) status = status ≡ 6

-- and so a text is printed, and a line behind it: in whole at 0, with the line of a store that failed in its place at 5, and else a front
pub record HasPrinted (out : Stream) (text line : List ℕ) (status : ℕ) : Type 0 where
  pub done : status ≡ 0 → Appends out.before out.now (text ++ line)
  pub cut : status ≡ 4 → AppendsFront out.before out.now (text ++ line)
  pub cause : status ≡ 4 → Rose out.faults_before out.faults_now
  pub stopped : status ≡ 5 → Writes out (text ++ stopped_text)
  pub memory : status ≡ 6 → AppendsFront out.before out.now text
  pub later : out.faults_before ≤ out.faults_now

-- the transcript of entries, and their numbers
abbrev pub HasPrintedRun : Stream → Script → List Entry → ℕ → Type 0
HasPrintedRun out s entries status = HasPrinted out (entries_text s entries) (done_text (length entries) (calls_of entries)) status
