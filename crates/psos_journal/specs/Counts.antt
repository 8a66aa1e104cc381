-- The counts of members on both sides. It states docs/levels.md, "Journal".
use Rattle.std.specs.Prelude.{◌≡◌, ℕ, ◌+◌, List, [], ◌∷◌, ◌++◌}
use Rattle.psos_journal.specs.declared.blanks.Blanks.{Blanks}
use Rattle.psos_journal.specs.declared.books.Books.{Books}
use Rattle.psos_journal.specs.declared.mark.Mark.{Mark}
use Rattle.psos_journal.specs.declared.mark.Mark.TheVariants.{From0, From6, From12, From18}
use Rattle.psos_journal.specs.declared.one_of_six.OneOfSix.{OneOfSix}
use Rattle.psos_journal.specs.declared.one_of_six.OneOfSix.TheVariants.{First, Second, Third, Fourth, Fifth, Sixth}
use Rattle.psos_journal.specs.declared.six_blanks.SixBlanks.{SixBlanks}
use Rattle.psos_journal.specs.declared.six_counts.SixCounts.{SixCounts}
use Rattle.psos_journal.specs.declared.six_shares.SixShares.{SixShares}

-- which of six members it is
abbrev pub place_of : {G : Type 0} → OneOfSix G → ℕ
place_of (First own) = 0
place_of (Second own) = 1
place_of (Third own) = 2
place_of (Fourth own) = 3
place_of (Fifth own) = 4
place_of (Sixth own) = 5

-- the number of its entries, as the member has it
abbrev pub amount_at : {G : Type 0} → OneOfSix G → ℕ
amount_at (First own) = own.share.amount
amount_at (Second own) = own.share.amount
amount_at (Third own) = own.share.amount
amount_at (Fourth own) = own.share.amount
amount_at (Fifth own) = own.share.amount
amount_at (Sixth own) = own.share.amount

-- which member it is
abbrev pub number_of : {T : Type 0} → Mark T → ℕ
number_of (From0 own) = place_of own
number_of (From6 own) = 6 + place_of own
number_of (From12 own) = 12 + place_of own
number_of (From18 own) = 18 + place_of own

-- the number of its entries, as the member has it
abbrev pub amount_of : {T : Type 0} → Mark T → ℕ
amount_of (From0 own) = amount_at own
amount_of (From6 own) = amount_at own
amount_of (From12 own) = amount_at own
amount_of (From18 own) = amount_at own

-- the number of each of six members' entries, as the journal has it
abbrev pub six_totals : {G : Type 0} → SixCounts G → List ℕ
six_totals b = b.first.book.total ∷ b.second.book.total ∷ b.third.book.total ∷ b.fourth.book.total ∷ b.fifth.book.total ∷ b.sixth.book.total ∷ []

-- the number of each member's entries, as the journal has it
abbrev pub totals : {T : Type 0} → Books T → List ℕ
totals b = six_totals b.from0 ++ (six_totals b.from6 ++ (six_totals b.from12 ++ six_totals b.from18))

-- what six ledgers are called
abbrev pub six_names : SixBlanks → List ℕ
six_names b = b.first.blank.name ∷ b.second.blank.name ∷ b.third.blank.name ∷ b.fourth.blank.name ∷ b.fifth.blank.name ∷ b.sixth.blank.name ∷ []

-- what the ledgers are called
abbrev pub names_of : Blanks → List ℕ
names_of b = six_names b.from0 ++ (six_names b.from6 ++ (six_names b.from12 ++ six_names b.from18))

-- each of six ledgers is called what the function says of its place
abbrev pub AreSixCalled : SixBlanks → (ℕ → ℕ) → Type 0
AreSixCalled l f = (l.first.blank.name ≡ f 0) × (l.second.blank.name ≡ f 1) × (l.third.blank.name ≡ f 2) × (l.fourth.blank.name ≡ f 3) × (l.fifth.blank.name ≡ f 4) × (l.sixth.blank.name ≡ f 5)

-- each ledger is called what the function says
abbrev pub AreCalled : Blanks → (ℕ → ℕ) → Type 0
AreCalled b f = AreSixCalled b.from0 (λ i. f (0 + i)) × AreSixCalled b.from6 (λ i. f (6 + i)) × AreSixCalled b.from12 (λ i. f (12 + i)) × AreSixCalled b.from18 (λ i. f (18 + i))

-- six members have no entry
abbrev pub AreZero : {G : Type 0} → SixShares G → Type 0
AreZero s = (s.first.share.amount ≡ 0) × (s.second.share.amount ≡ 0) × (s.third.share.amount ≡ 0) × (s.fourth.share.amount ≡ 0) × (s.fifth.share.amount ≡ 0) × (s.sixth.share.amount ≡ 0)
