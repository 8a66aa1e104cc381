-- What holds of every segment and window. States docs/levels.md, "Calls".
use Rattle.std.specs.Prelude.{◌≡◌, ℕ, ◌+◌, ◌<◌, ◌≤◌, Some}
use Rattle.psos_limits.specs.declared.TheConstants.{SLOTS, MOST_WORDS}
use Rattle.psos_table.specs.Table.{Table, at}
use Rattle.psos_calls.specs.declared.seg_row.SegRow.{SegRow}
use Rattle.psos_calls.specs.declared.win_row.WinRow.{WinRow}
use Rattle.psos_calls.specs.Language.Views as views
use Rattle.psos_segs.specs.declared.view.View.{View}

-- segments have slots and at most 512 words, and windows lie within as many
pub record AreWithin (segments : Table SegRow) (windows : Table WinRow) : Type 0 where
  pub rows : (u : ℕ) (r : SegRow) → at segments u ≡ Some r → (r.slot < SLOTS) × (r.len ≤ MOST_WORDS)
  pub parts : (u : ℕ) (w : WinRow) → at windows u ≡ Some w → w.base + w.len ≤ MOST_WORDS

-- a view of code as one of the definitions
abbrev pub as_view : View → views.View
as_view v = record { seg = v.seg.0; base = v.base; len = v.len; guard = v.row.guard }
