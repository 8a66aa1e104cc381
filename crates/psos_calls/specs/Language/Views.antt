-- The words that a capability leads to: a segment's, or through a window a part of them. States docs/system.md, "The flat state".
use Rattle.std.specs.Prelude.{ℕ, ◌+◌, ◌==◌, ◌&&◌, nat_lt, nat_le, not, Bool, Option}
use Rattle.std.specs.Option.{option_map, option_or, option_and_then}
use Rattle.psos_caps.specs.declared.rights.Rights.{Rights}
use Rattle.psos_calls.specs.declared.win_row.WinRow.{WinRow}

-- the length and the guard of a segment
pub record Shape : Type 0 where
  pub len : ℕ
  pub guard : Rights

-- the words that a live identifier leads to: a segment, where they begin in it, how many, and its guard
pub record View : Type 0 where
  pub seg : ℕ
  pub base : ℕ
  pub len : ℕ
  pub guard : Rights

abbrev pub whole : ℕ → Shape → View
whole u s = record { seg = u; base = 0; len = s.len; guard = s.guard }

abbrev pub through : WinRow → Shape → View
through w s = record { seg = w.seg.0; base = w.base; len = w.len; guard = s.guard }

-- a segment leads to all its words, and a window to a part of its segment's
abbrev pub view_in : (ℕ → Option Shape) → (ℕ → Option WinRow) → ℕ → Option View
view_in shapes windows u = option_or (option_map (whole u) (shapes u)) (option_and_then (λ w. option_map (through w) (shapes w.seg.0)) (windows u))

-- a part of a view, with at least one word
abbrev pub fits_in : View → ℕ → ℕ → Bool
fits_in v base len = nat_lt 0 len && nat_le (base + len) v.len

abbrev pub part_of : View → ℕ → ℕ → WinRow
part_of v base len = record { seg = record { 0 = v.seg }; base = v.base + base; len = len }

-- the row is no window over the segment
abbrev pub is_not_over : ℕ → WinRow → Bool
is_not_over u w = not (w.seg.0 == u)
