-- How `load` ends. States docs/program.md, "Load" and "Statuses".
use Rattle.std.specs.Prelude.{◌≡◌, ℕ, ◌≤◌, List, ◌++◌, ◌⊎◌, length, map, None, IsSomeAnd}
use Rattle.std.specs.Io.KnownBytes.{Appends}
use Rattle.psos_io.specs.Bytes.{AppendsFront}
use Rattle.psos_io.specs.Causes.{Rose}
use Rattle.psos_calls.specs.declared.entry.Entry.{Entry}
use Rattle.psos_calls.specs.Language.Script.{Script}
use Rattle.psos_model.specs.Text.Spelling.{IsScript}
use Rattle.psos_model.specs.Text.Output.{calls_of, done_text}
use Rattle.psos_model.specs.Text.Load.{load_text, load_head, load_output, forms_text}
use Rattle.psos_model.specs.Replay.{order_of, answered_of}
use Rattle.psos_top.specs.declared.command.Command.TheVariants.{Turns}
use Rattle.psos_top.specs.Outcome.{Stream, Given, Writes, IsSoFar, IsUnopened, RanToEnd, stopped_text}
use Rattle.psos_top.specs.Orders.{IsRunBy}

-- the first line is that of these numbers, and the script is the one that their text spells
pub record IsMadeFrom (users lines seed : ℕ) (head : List ℕ) (s : Script) : Type 0 where
  pub head-is : head ≡ load_head users lines seed
  pub spelled : IsScript (load_text users lines seed) s

-- what is printed of entries behind the first line
abbrev pub counts_text : List Entry → List ℕ
counts_text entries = forms_text (map answered_of entries) ++ done_text (length entries) (calls_of entries)

-- the script that the text of these numbers spells was run in turns, and its output was put
pub record IsLoaded (users lines seed : ℕ) (given : Given) (Put : List ℕ → Type 0) (s : Script) : Type 0 where
  pub spelled : IsScript (load_text users lines seed) s
  pub run : IsSomeAnd given.left (IsRunBy (Turns seed) s given.entries)
  pub text : Put (load_output users lines seed s (order_of given.entries))

-- the script that the text of these numbers spells was run so far
pub record IsLoadedSoFar (users lines seed : ℕ) (given : Given) (s : Script) : Type 0 where
  pub spelled : IsScript (load_text users lines seed) s
  pub so_far : IsSoFar s given.entries given.left

-- how it ends
pub record LoadEnds (users lines seed : ℕ) (out : Stream) (given : Given) : Type 0 where
  -- there is no other status
  pub which : (given.status ≡ 0) ⊎ (given.status ≡ 4) ⊎ (given.status ≡ 5) ⊎ (given.status ≡ 6)
  -- at 0, what was written is the output of the flat objects for the order that the entries record
  pub printed : given.status ≡ 0 → (s : Script) × IsLoaded users lines seed given (Appends out.before out.now) s
  -- at 4, the output failed, and a front of it was written
  pub write_fault : given.status ≡ 4 → Rose out.faults_before out.faults_now
  pub cut : given.status ≡ 4 → (s : Script) × IsLoaded users lines seed given (AppendsFront out.before out.now) s
  -- at 5, the store failed, and the first line and that of it were written
  pub store_fault : given.status ≡ 5 → Rose given.store_before given.store_now
  pub stopped : given.status ≡ 5 → Writes out (load_head users lines seed ++ stopped_text)
  pub stopped_run : given.status ≡ 5 → (s : Script) × IsLoadedSoFar users lines seed given s
  pub none : given.status ≡ 5 → given.left ≡ None
  -- at 6, a front of the first line was written, or nothing and no run was opened
  pub memory : given.status ≡ 6 → AppendsFront out.before out.now (load_head users lines seed)
  pub unfinished : given.status ≡ 6 → IsUnopened out given ⊎ ((s : Script) × IsLoadedSoFar users lines seed given s)
  -- unless memory was wanting or a count rose, it ends with 0 and a complete order
  pub complete : (s : Script) → IsScript (load_text users lines seed) s → (Rose out.faults_before out.faults_now → ⊥) → RanToEnd given s
  pub out_later : out.faults_before ≤ out.faults_now
