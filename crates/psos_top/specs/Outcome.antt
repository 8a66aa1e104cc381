-- How a command ends. States docs/program.md, "Statuses".
use Rattle.std.specs.Prelude.{◌≡◌, ℕ, ◌≤◌, ◌++◌, List, [], ◌∷◌, ◌⊎◌, Option, Some, None, IfSome, IsSomeAnd, option_map, codes, decimal}
use Rattle.std.specs.Io.KnownBytes.{Appends, Keeps, IsAtEnd}
use Rattle.psos_io.specs.Bytes.{AppendsFront}
use Rattle.psos_io.specs.Causes.{Rose}
use Rattle.psos_calls.specs.declared.entry.Entry.{Entry}
use Rattle.psos_calls.specs.Language.Script.{Script, IsWellFormed}
use Rattle.psos_model.specs.Text.Spelling.{IsScript}
use Rattle.psos_model.specs.Flat.Boot.{boot}
use Rattle.psos_model.specs.Run.{IsLegalFrom, IsComplete, run}
use Rattle.psos_model.specs.Replay.{System, replay, order_of, AreFaithful}
use Rattle.psos_model.specs.Replay.StandsFor.{StandsFor}
use Rattle.psos_model.specs.Text.Transcript.{transcript}
use Rattle.psos_model.specs.Text.Output.{output}
use Rattle.psos_laws.specs.Laws.{HoldsAlong}
use Rattle.psos_script.specs.declared.cause.Cause.{Cause}
use Rattle.psos_script.specs.Fault.{fault_of}
use Rattle.psos_script.specs.CauseText.{cause_text}
use Rattle.psos_core.specs.declared.levels.Levels.{Levels}
use Rattle.psos_core.specs.System.{system_of}
use Rattle.psos_top.specs.declared.command.Command.{Command}
use Rattle.psos_top.specs.declared.outcome.Outcome.{Outcome}
use Rattle.psos_top.specs.Orders.{IsRunBy}

-- ---- what goes in and out, and what is given

-- an input or an output before and now: its bytes, where they are known, and how many of its calls failed
pub record Stream : Type 0 where
  pub before : Option (List ℕ)
  pub now : Option (List ℕ)
  pub faults_before : ℕ
  pub faults_now : ℕ

-- a source or a sink before and now, seen by its bytes and its count of faults
abbrev pub stream : {S : Type 0} → (S → Option (List ℕ)) → (S → ℕ) → S → S → Stream
stream bytes faults before now = record { before = bytes before; now = bytes now; faults_before = faults before; faults_now = faults now }

-- what a command gives, and how many calls of the store had failed before it and after it
pub record Given : Type 0 where
  pub status : ℕ
  pub entries : List Entry
  pub left : Option System
  pub store_before : ℕ
  pub store_now : ℕ

abbrev pub given_by : {B : Type 0} → ℕ → Outcome B → Given
given_by {B} start outcome = record {
  status = outcome.status;
  entries = outcome.entries;
  left = option_map (λ (l : Levels B). system_of l) outcome.levels;
  store_before = start;
  store_now = outcome.store_faults;
}

-- ---- the run so far

-- levels and users' own parts as an order leaves them: those of its replay, which stand for the flat state of its run
pub record AreLeft (s : Script) (order : List ℕ) (left : System) : Type 0 where
  pub replayed : left ≡ replay s order
  pub stands : StandsFor left (run s order)

-- the requests that closed come in a legal order, their entries are faithful, the laws hold at every point of it, and the levels, where they are given, are as it leaves them
pub record IsSoFar (s : Script) (entries : List Entry) (left : Option System) : Type 0 where
  pub legal : IsLegalFrom s (boot s) (order_of entries)
  pub faithful : AreFaithful s entries
  pub lawful : HoldsAlong s (boot s) (order_of entries)
  pub stands : IfSome left (AreLeft s (order_of entries))

-- ---- the lines in place of a run

-- line L: CAUSE
abbrev pub fault_line : ℕ → Cause → List ℕ
fault_line line cause = codes "line " ++ (decimal line ++ (codes ": " ++ (cause_text cause ++ 10 ∷ [])))

abbrev pub read_fault_text : List ℕ
read_fault_text = codes "read fault\n"

abbrev pub stopped_text : List ℕ
stopped_text = codes "stopped store\n"

abbrev pub usage_text : List ℕ
usage_text = codes "usage: psos COMMAND [OPTION N]...\n"

-- the input was read to its end, the script is well formed, and where the bytes are known they spell it
pub record WasRead (before now : Option (List ℕ)) (s : Script) : Type 0 where
  pub formed : IsWellFormed s
  pub spelled : IfSome before (λ bytes. IsScript bytes s)
  pub ended : IsAtEnd now

-- the input, where its bytes are known, spells no script
abbrev pub SpellsNone : Option (List ℕ) → Type 0
SpellsNone input = IfSome input (λ bytes. (s : Script) → IsScript bytes s → ⊥)

-- the bytes of the input are known, and spell this script
abbrev pub Holds : Script → Option (List ℕ) → Type 0
Holds s input = IsSomeAnd input (λ bytes. IsScript bytes s)

-- they are known, and spell none
abbrev pub HoldsNone : Option (List ℕ) → Type 0
HoldsNone input = IsSomeAnd input (λ bytes. (s : Script) → IsScript bytes s → ⊥)

-- the whole text was written, or a front of it and a write failed
pub record Wrote (before now : Option (List ℕ)) (faults_before faults_now : ℕ) (text : List ℕ) : Type 0 where
  pub front : AppendsFront before now text
  pub whole : Appends before now text ⊎ Rose faults_before faults_now

-- the same, seen by a stream
abbrev pub Writes : Stream → List ℕ → Type 0
Writes out text = Wrote out.before out.now out.faults_before out.faults_now text

-- the bytes of the input, where they are known, are no script, and this is the cause on the least faulty line
pub record IsFaulty (input : Option (List ℕ)) (line : ℕ) (cause : Cause) : Type 0 where
  pub first : IfSome input (λ bytes. fault_of bytes ≡ Some (line, cause))
  pub none : SpellsNone input

-- status 2: the bytes are no script, and the line of their first fault was written, or a front of it and a write failed
pub record IsRefused (input out : Stream) : Type 0 where
  pub line : ℕ
  pub cause : Cause
  pub faulty : IsFaulty input.before line cause
  pub text : Writes out (fault_line line cause)

-- status 0: the script was read, a whole run was made, and its output was written in whole
pub record IsPrinted (command : Command) (input_before input_now before now : Option (List ℕ)) (entries : List Entry) (left : Option System) (s : Script) : Type 0 where
  pub read : WasRead input_before input_now s
  pub run : IsSomeAnd left (IsRunBy command s entries)
  pub text : Appends before now (output s (order_of entries))

-- status 4: the script was read, a whole run was made, and a front of its output was written
pub record IsCut (command : Command) (input_before input_now before now : Option (List ℕ)) (entries : List Entry) (left : Option System) (s : Script) : Type 0 where
  pub read : WasRead input_before input_now s
  pub run : IsSomeAnd left (IsRunBy command s entries)
  pub text : AppendsFront before now (output s (order_of entries))

-- no run was made
pub record IsNoRun {X : Type 0} (entries : List Entry) (left : Option X) : Type 0 where
  pub entries-none : entries ≡ []
  pub left-none : left ≡ None

-- status 6 before a run was opened: nothing was written, and no run is given
pub record IsUnopened (out : Stream) (given : Given) : Type 0 where
  pub text : Keeps out.before out.now
  pub none : IsNoRun given.entries given.left

-- status 6 of a run: the script was read, and a front of the transcript of the order so far was written
pub record IsUnfinished (input out : Stream) (given : Given) (s : Script) : Type 0 where
  pub read : WasRead input.before input.now s
  pub so_far : IsSoFar s given.entries given.left
  pub text : AppendsFront out.before out.now (transcript s (order_of given.entries))

-- status 5: the script was read, calls of the store failed, and the transcript of the order so far and the line of it were written, or a front of them and a write failed
pub record IsStopped (input out : Stream) (given : Given) : Type 0 where
  pub script : Script
  pub read : WasRead input.before input.now script
  pub cause : Rose given.store_before given.store_now
  pub so_far : IsSoFar script given.entries given.left
  pub none : given.left ≡ None
  pub text : Writes out (transcript script (order_of given.entries) ++ stopped_text)

-- how a run of a script ends: printed, cut, stopped for the store, or out of memory
pub record RunEnds (command : Command) (out : Stream) (given : Given) (s : Script) : Type 0 where
  pub which : (given.status ≡ 0) ⊎ (given.status ≡ 4) ⊎ (given.status ≡ 5) ⊎ (given.status ≡ 6)
  pub run : (given.status ≡ 0) ⊎ (given.status ≡ 4) → IsSomeAnd given.left (IsRunBy command s given.entries)
  pub done : given.status ≡ 0 → Appends out.before out.now (output s (order_of given.entries))
  pub cut : given.status ≡ 4 → AppendsFront out.before out.now (output s (order_of given.entries))
  pub cause : given.status ≡ 4 → Rose out.faults_before out.faults_now
  pub so_far : IsSoFar s given.entries given.left
  pub store : given.status ≡ 5 → Rose given.store_before given.store_now
  pub none : given.status ≡ 5 → given.left ≡ None
  pub stopped : given.status ≡ 5 → Writes out (transcript s (order_of given.entries) ++ stopped_text)
  pub memory : given.status ≡ 6 → AppendsFront out.before out.now (transcript s (order_of given.entries))
  pub later : out.faults_before ≤ out.faults_now

-- exactly status 2: bytes that spell no script end so, unless a read failed or memory was wanting
pub record RefusesNonScripts (input : Option (List ℕ)) (reads_before reads_now status : ℕ) : Type 0 where
  pub refuses : HoldsNone input → (Rose reads_before reads_now → ⊥) → (status ≡ 2) ⊎ (status ≡ 6)

-- a script ended with 0 and a complete order, or with 5 and the store failed, or with 6
abbrev pub RanToEnd : Given → Script → Type 0
RanToEnd given s =
    ((given.status ≡ 0) × IsComplete s (order_of given.entries)) ⊎ ((given.status ≡ 5) × Rose given.store_before given.store_now) ⊎ (given.status ≡ 6)

-- completeness: bytes that spell a script end so, unless a read or a write failed
pub record RunsScripts (input out : Stream) (given : Given) : Type 0 where
  pub runs : (s : Script) → Holds s input.before → (Rose input.faults_before input.faults_now → ⊥) → (Rose out.faults_before out.faults_now → ⊥) → RanToEnd given s

-- ---- the store

-- the store is handed back only under 5 and 6, only where no levels are given, and always under 5; under 6 with neither no run was opened
pub record HandsStoreBack {X B : Type 0} (before now : Option (List ℕ)) (status : ℕ) (entries : List Entry) (levels : Option X) (store : Option B) : Type 0 where
  pub only : IfSome store (λ b. (status ≡ 5) ⊎ (status ≡ 6))
  pub apart : IfSome store (λ b. levels ≡ None)
  pub stopped : status ≡ 5 → store ≡ None → ⊥
  pub unopened : status ≡ 6 → store ≡ None → levels ≡ None → (entries ≡ []) × Keeps before now

-- the count of faults at the end: of the store within the levels, else of the one that is handed back, else as it was at the start
abbrev pub count_at_end : Option ℕ → Option ℕ → ℕ → ℕ
count_at_end (Some within) back start = within
count_at_end None (Some back) start = back
count_at_end None None start = start

-- where the store is at the end, and how many of its calls had failed
pub record StoreIsLeft {B : Type 0} (faults : B → ℕ) (start : ℕ) (out : Stream) (outcome : Outcome B) : Type 0 where
  pub back : HandsStoreBack out.before out.now outcome.status outcome.entries outcome.levels outcome.store
  pub count : outcome.store_faults ≡ count_at_end (option_map (λ (l : Levels B). faults l.pages.store) outcome.levels) (option_map faults outcome.store) start
  pub later : start ≤ outcome.store_faults

-- the same of a command: it is handed back only of a script that was read
pub record StoreEnds {B : Type 0} (faults : B → ℕ) (start : ℕ) (input out : Stream) (outcome : Outcome B) : Type 0 where
  pub left : StoreIsLeft faults start out outcome
  pub read : IfSome outcome.store (λ b. (s : Script) × WasRead input.before input.now s)

-- ---- the statuses

-- of a command
abbrev pub IsRunStatus : ℕ → Type 0
IsRunStatus status = (status ≡ 0) ⊎ (status ≡ 2) ⊎ (status ≡ 3) ⊎ (status ≡ 4) ⊎ (status ≡ 5) ⊎ (status ≡ 6)

-- the statuses without a run
abbrev pub HasNoRun : ℕ → Type 0
HasNoRun status = (status ≡ 1) ⊎ (status ≡ 2) ⊎ (status ≡ 3)

-- ---- a command, from the bytes that go in to those that come out

-- how it ends
pub record Ends (command : Command) (input out : Stream) (given : Given) : Type 0 where
  -- there is no other status
  pub which : IsRunStatus given.status
  -- at 0, what was written is the output of the flat objects for the order that the entries record
  pub printed : given.status ≡ 0 → (s : Script) × IsPrinted command input.before input.now out.before out.now given.entries given.left s
  -- at 2, the bytes are no script, and their first fault was written
  pub refused : given.status ≡ 2 → IsRefused input out
  -- at 3, the input failed
  pub read_fault : given.status ≡ 3 → Rose input.faults_before input.faults_now
  pub read_fault_line : given.status ≡ 3 → Writes out read_fault_text
  -- at 4, the output failed
  pub write_fault : given.status ≡ 4 → Rose out.faults_before out.faults_now
  pub cut : given.status ≡ 4 → (s : Script) × IsCut command input.before input.now out.before out.now given.entries given.left s
  -- at 5, the store failed, and the transcript of the order so far and the line of it were written
  pub stopped : given.status ≡ 5 → IsStopped input out given
  -- at 6, a front of the transcript of the order so far was written, or nothing and no run was opened
  pub memory : given.status ≡ 6 → IsUnopened out given ⊎ ((s : Script) × IsUnfinished input out given s)
  -- unless memory was wanting or a count rose, bytes that are no script end it with 2, and a script with 0
  pub no_script : RefusesNonScripts input.before input.faults_before input.faults_now given.status
  pub complete : RunsScripts input out given
  -- at 2 and 3 no run is given
  pub none : HasNoRun given.status → IsNoRun given.entries given.left
  pub input_later : input.faults_before ≤ input.faults_now
  pub out_later : out.faults_before ≤ out.faults_now
