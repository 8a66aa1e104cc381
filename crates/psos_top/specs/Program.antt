-- How the program ends. States docs/program.md, "Options" and "Statuses".
use Rattle.std.specs.Prelude.{◌≡◌, ℕ, ◌≤◌, ◌⊎◌, List, Some, None}
use Rattle.std.specs.Io.KnownBytes.{Appends}
use Rattle.psos_top.specs.declared.words.Asked.{Asked}
use Rattle.psos_top.specs.Words.{words_asked}
use Rattle.psos_calls.specs.Language.Script.{Script}
use Rattle.psos_top.specs.declared.command.Command.{Command}
use Rattle.psos_top.specs.declared.command.Command.TheVariants.{Serial, Turns, Run, Load}
use Rattle.psos_top.specs.declared.outcome.Outcome.{Outcome}
use Rattle.psos_top.specs.Outcome.{Stream, Given, Ends, Wrote, IsPrinted, IsNoRun, StoreIsLeft, StoreEnds, usage_text}
use Rattle.psos_top.specs.Loading.{IsLoaded, LoadEnds}

-- nothing of it was read
pub record IsUnread (input : Stream) : Type 0 where
  pub left : input.now ≡ input.before
  pub faults : input.faults_now ≡ input.faults_before

-- status 1: nothing was read, and the line of its use was written, or a front of it and a write failed
pub record EndsUnread (input out : Stream) (given : Given) : Type 0 where
  pub status-is : given.status ≡ 1
  pub left : input.now ≡ input.before
  pub faults : input.faults_now ≡ input.faults_before
  pub text : Wrote out.before out.now out.faults_before out.faults_now usage_text
  pub none : IsNoRun given.entries given.left
  pub out_later : out.faults_before ≤ out.faults_now

-- how a command ends; `load` reads nothing
abbrev pub EndsBy : Command → Stream → Stream → Given → Type 0
EndsBy Serial input out given = Ends Serial input out given
EndsBy (Turns seed) input out given = Ends (Turns seed) input out given
EndsBy Run input out given = Ends Run input out given
EndsBy (Load users lines seed) input out given = IsUnread input × LoadEnds users lines seed out given

-- words without the shape end with status 1, and others as the command that they ask for
pub record EndsAsAsked (words : List (List ℕ)) (input out : Stream) (given : Given) : Type 0 where
  pub shapeless : words_asked words ≡ None → EndsUnread input out given
  pub asked : (asked : Asked) → words_asked words ≡ Some asked → EndsBy asked.command input out given

-- a run of a script by a command was printed in whole
abbrev pub IsPrintedBy : Command → Stream → Stream → Given → Script → Type 0
IsPrintedBy Serial input out given s = IsPrinted Serial input.before input.now out.before out.now given.entries given.left s
IsPrintedBy (Turns seed) input out given s = IsPrinted (Turns seed) input.before input.now out.before out.now given.entries given.left s
IsPrintedBy Run input out given s = IsPrinted Run input.before input.now out.before out.now given.entries given.left s
IsPrintedBy (Load users lines seed) input out given s = IsLoaded users lines seed given (Appends out.before out.now) s

-- status 0: what was written is the output of the flat objects for the order that the entries record, which is the order of the command that is asked for
pub record PrintsAsAsked (words : List (List ℕ)) (input out : Stream) (given : Given) : Type 0 where
  pub asked : Asked
  pub asked-is : words_asked words ≡ Some asked
  pub script : Script
  pub printed : IsPrintedBy asked.command input out given script

-- where the store is after a command; `load` reads no script
abbrev pub StoreEndsBy : {B : Type 0} → Command → (B → ℕ) → ℕ → Stream → Stream → Outcome B → Type 0
StoreEndsBy Serial faults start input out outcome = StoreEnds faults start input out outcome
StoreEndsBy (Turns seed) faults start input out outcome = StoreEnds faults start input out outcome
StoreEndsBy Run faults start input out outcome = StoreEnds faults start input out outcome
StoreEndsBy (Load users lines seed) faults start input out outcome = StoreIsLeft faults start out outcome

-- where it is after all: without the shape, and after the command that is asked for
pub record StoreEndsAsAsked {B : Type 0} (words : List (List ℕ)) (faults : B → ℕ) (start : ℕ) (input out : Stream) (outcome : Outcome B) : Type 0 where
  pub shapeless : words_asked words ≡ None → StoreEnds faults start input out outcome
  pub asked : (asked : Asked) → words_asked words ≡ Some asked → StoreEndsBy asked.command faults start input out outcome

-- status 6 before the words were had: nothing was read, and nothing was written
pub record EndsUnheard (input out : Stream) (status : ℕ) : Type 0 where
  pub status-is : status ≡ 6
  pub left : input.now ≡ input.before
  pub faults : input.faults_now ≡ input.faults_before
  pub text : out.now ≡ out.before
  pub out_faults : out.faults_now ≡ out.faults_before

-- a program of these words ended with this status, where so many calls of the store had failed before: as its words ask, or for want of memory before they were had
abbrev pub ProgramEnds : List (List ℕ) → Stream → Stream → ℕ → ℕ → Type 0
ProgramEnds words input out start status =
    EndsUnheard input out status ⊎ ((given : Given) × EndsAsAsked words input out given × (status ≡ given.status) × (start ≡ given.store_before))
