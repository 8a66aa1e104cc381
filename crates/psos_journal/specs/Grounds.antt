-- What holds of the cells and ledgers from which a journal starts. It states docs/levels.md, "Journal".
use Rattle.std.specs.Prelude.{◌≡◌, ℕ, ◌≤◌, List, []}
use Rattle.std.specs.declared.option.Option.{Option}
use Rattle.logbook.specs.Pages.{Book, Named, Nib, nib, may_write}
use Rattle.psos_journal.specs.Cells.{count_word, entries_in}

-- no entry was added, and the pen may fill the first entry's cell; the ledger of told members has a part for each that
-- there may be, that of store faults one; and both limits
abbrev pub IsGround : {A : Type 0} → Named → Book → Nib → Book → List (Option A) → ℕ → ℕ → ℕ → ℕ → Type 0
IsGround count pen_book pen_nib book log told_parts faults_parts members room = (count ≡ count_word book) × (pen_book ≡ book) × (pen_nib ≡ nib may_write 2 0) × (entries_in log ≡ []) × (told_parts ≡ 24) × (faults_parts ≡ 1) × (members ≤ 24) × (room ≤ 32768)
