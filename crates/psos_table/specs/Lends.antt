-- What a table ends as, once a row that it lent is given back.
use Rattle.std.specs.Prelude.{◌≡◌, ℕ, Option}
use Rattle.std.specs.Borrow.{LendsSo, Fml, RattleType, MutBor}
use Rattle.psos_table.specs.contracts.table.Table.{the_row}
use Rattle.psos_table.specs.Table.{Table, edit}

-- the row under k, where there is one, ends as the last row behind r, and the table is else as it was
abbrev pub lends_row : (V : RattleType) → MutBor (Table V.Denot) → ℕ → Option (MutBor V.Denot) → Fml
lends_row V s k r = LendsSo (the_row V) V s r (λ n w. n ≡ edit s.now k (λ _. w)) (λ n. n ≡ s.now)
