-- What a journal, its members and their receipts are seen as. It states docs/levels.md, "Journal".
use Rattle.std.specs.Prelude.{◌≡◌, ℕ, ◌<◌, Bool, true, false, List, [], slice_index}
use Rattle.std.specs.declared.option.Option.{Option}
use Rattle.std.specs.declared.option.Option.TheVariants.{None, Some}
use Rattle.psos_journal.specs.declared.stop_cause.StopCause.{StopCause}
use Rattle.psos_journal.specs.declared.stop_cause.StopCause.TheVariants.{Store, Memory}
use Rattle.logbook.specs.Pages.{Book}
use Rattle.psos_journal.specs.Members.{named}

-- the entries with their names, the limit on them, the number of members, the first cause of a stop, and, where a pen is open, the bits of the members that are still to be entered
pub record JournalState (A : Type 0) : Type 0 where
  pub entries : List (A × ℕ)
  pub room : ℕ
  pub members : ℕ
  pub stopped : Option StopCause
  pub left : Option ℕ

-- the member's number, what it knows of the journal's entries, up to the last that names it, and whether it was told of a store fault
pub record Side (A : Type 0) : Type 0 where
  pub number : ℕ
  pub past : List (A × ℕ)
  pub told : Bool

-- the member's list
abbrev pub list_of : {A : Type 0} → Side A → List A
list_of m = named m.number m.past

-- the stamp of a member's last entry, and the journal's entries up to it
pub record Known (A : Type 0) : Type 0 where
  pub stamp : ℕ
  pub past : List (A × ℕ)

-- whether a member is told, after it asked for the first cause
abbrev pub told_after : Bool → Option StopCause → Bool
told_after told None = told
told_after told (Some Store) = true
told_after told (Some Memory) = told

-- what a run starts from: the number of members, the limit on entries, and what its cells and ledgers are called
pub record Ready : Type 0 where
  pub members : ℕ
  pub room : ℕ
  pub book : Book
  pub counts : List ℕ
  pub told : ℕ
  pub faults : ℕ

-- a member with no entry
abbrev pub new_side : {A : Type 0} → ℕ → Side A
new_side number = record { number = number; past = []; told = false }

-- the cells and the ledgers are called so
pub record AreNamed (ground : Ready) (book_name : Book) (count_names : ℕ → ℕ) (told_name faults_name : ℕ) : Type 0 where
  pub cells : ground.book ≡ book_name
  pub each : (i : ℕ) → i < 24 → slice_index ground.counts i ≡ count_names i
  pub tales : ground.told ≡ told_name
  pub store : ground.faults ≡ faults_name
