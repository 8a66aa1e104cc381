-- The members of a journal that starts. It states docs/levels.md, "Journal".
use Rattle.std.specs.Prelude.{◌≡◌, ℕ, ◌+◌, ◌≤◌, List, [], length, slice_get}
use Rattle.std.specs.declared.option.Option.TheVariants.{Some}
use Rattle.psos_journal.specs.declared.six_marks.SixMarks.{SixMarks}
use Rattle.psos_journal.specs.Counts.{number_of, amount_of}
use Rattle.psos_journal.specs.Views.{Side, new_side}

-- the members before the next one were made, in order, there is room for the others, and each took one part of the ledger of told members
pub record AreNewMembers {A : Type 0} (next parts amount : ℕ) (members : List (Side A)) (capacity : ℕ) (past : List (A × ℕ)) : Type 0 where
  pub size : length members ≡ next
  pub each : (j : ℕ) (m : Side A) → slice_get members j ≡ Some m → m ≡ new_side j
  pub room : 24 ≤ capacity
  pub bare : past ≡ []
  pub rest : parts + next ≡ 24
  pub none : amount ≡ 0

-- six members are numbered in order, and have no entry
abbrev pub AreInOrder : {T : Type 0} → ℕ → SixMarks T → Type 0
AreInOrder n m =
    (number_of m.first ≡ n) × (amount_of m.first ≡ 0)
    × (number_of m.second ≡ n + 1) × (amount_of m.second ≡ 0)
    × (number_of m.third ≡ n + 2) × (amount_of m.third ≡ 0)
    × (number_of m.fourth ≡ n + 3) × (amount_of m.fourth ≡ 0)
    × (number_of m.fifth ≡ n + 4) × (amount_of m.fifth ≡ 0)
    × (number_of m.sixth ≡ n + 5) × (amount_of m.sixth ≡ 0)
