-- How the state of level 8 is stored.
use Rattle.std.specs.Prelude.{refl}
use Rattle.std.specs.Coded.{Coded, code_by, coded×, coded_ℕ}
use Rattle.std.specs.FinMap as map
use Rattle.psos_table.specs.Table.{Table}
use Rattle.psos_calls.specs.declared.seg_row.SegRow.{SegRow}
use Rattle.psos_calls.specs.declared.win_row.WinRow.{WinRow}
use Rattle.psos_calls.specs.contracts.seg_row.SegRow as seg_row
use Rattle.psos_calls.specs.contracts.win_row.WinRow as win_row
use Rattle.psos_calls.specs.Levels.Level8.{SegState}

-- the state is stored as its two tables
abbrev pub seg_state_code : Coded SegState
seg_state_code =
    code_by (Table SegRow × Table WinRow) (coded× (map.code coded_ℕ seg_row.the_row.coded) (map.code coded_ℕ win_row.the_row.coded))
    (λ s. (s.segments, s.windows)) (λ p. record { segments = p.0; windows = p.1 }) (λ _. refl)
