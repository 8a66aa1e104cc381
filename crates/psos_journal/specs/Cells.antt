-- The cells of a journal's entries, the rule over them, and what each step tells. It states docs/levels.md, "Journal".
use Rattle.std.specs.Prelude.{◌≡◌, ℕ, suc, ◌+◌, ◌<◌, ◌≤◌, ◌==◌, true, false, List, [], ◌∷◌, ◌++◌, length, MatchBool}
use Rattle.std.specs.declared.option.Option.{Option}
use Rattle.std.specs.declared.option.Option.TheVariants.{None, Some}
use Rattle.logbook.specs.Pages.{Cell, Book, Named, Step, View, cell, nib, may_make}

-- the entries of a log; a step that only looks asks for none
abbrev pub entries_in : {A : Type 0} → List (Option A) → List A
entries_in [] = []
entries_in (None ∷ log) = entries_in log
entries_in (Some x ∷ log) = x ∷ entries_in log

-- The first cell has the number of cells. The second is spare, and behind it each entry has a cell that is full; no cell behind these is full
pub record AreFilled {A : Type 0} (cells : List Cell) (log : List (Option A)) : Type 0 where
  pub rest : List Cell
  pub whole : cells ≡ (suc (length rest), true) ∷ rest
  pub full : (j : ℕ) → j < length (entries_in log) → (cell rest (suc j)).1 ≡ true
  pub bare : (j : ℕ) → length (entries_in log) ≤ j → (cell rest (suc j)).1 ≡ false

-- the word of the first cell of a book
abbrev pub count_word : Book → Named
count_word b = record { tracked = true; key = 0; book = b }

-- one more cell was made, where the number of cells was as expected
abbrev pub Makes : {A : Type 0} → Step (Option A) → View (Option A) ℕ → ℕ → View (Option A) ℕ → Type 0
Makes s v found w = MatchBool (found == s.old) (w.1.0 ≡ nib may_make s.old 0) (Unit {0})

-- the entry was added to all that had been seen
abbrev pub Adds : {A : Type 0} → Step (Option A) → View (Option A) ℕ → ℕ → View (Option A) ℕ → Type 0
Adds s v found w = entries_in w.0 ≡ entries_in (v.0 ++ s.ask ∷ [])

-- no more entries were added than there are full cells before the pen's
abbrev pub Looks : {A : Type 0} → Step (Option A) → View (Option A) ℕ → ℕ → View (Option A) ℕ → Type 0
Looks s v found w = (w.1.0 ≡ v.1.0) × (length (entries_in w.0) + 2 ≤ v.1.0.key)
