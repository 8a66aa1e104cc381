-- Segments and windows stay within their bounds.
use Rattle.std.proofs.Common.{◌≡◌, ℕ, ◌+◌, ◌<◌, ◌≤◌, Bool, true, false, Some, refl}
use Rattle.std.specs.Prelude.{nat_lt, if◌then◌else◌}
use Rattle.std.specs.Ordering.{nat_cmp}
use Rattle.std.specs.FinMap.{empty}
use Rattle.std.proofs.lemmas.Bool.{leb-true, and_parts}
use Rattle.psos_limits.specs.declared.TheConstants.{SLOTS, MOST_WORDS, MOST_WINDOWS}
use Rattle.psos_table.specs.Table.{Table, size, put, without, kept}
use Rattle.psos_table.proofs.Tables.{row_put, row_without, row_kept, row_empty}
use Rattle.psos_caps.specs.Capability.{Capability}
use Rattle.psos_calls.specs.declared.seg_row.SegRow.{SegRow}
use Rattle.psos_calls.specs.declared.win_row.WinRow.{WinRow}
use Rattle.psos_calls.specs.declared.right.Right.TheVariants.{Window}
use Rattle.psos_calls.specs.declared.tab.Tab.TheVariants.{Windows}
use Rattle.psos_calls.specs.declared.refusal.Refusal.TheVariants.{Lacks, Range, Exhausted}
use Rattle.psos_calls.specs.Levels.Answers.{LevelAnswer}
use Rattle.psos_calls.specs.declared.level_answer.LevelAnswer.TheVariants.{Done, No}
use Rattle.psos_calls.specs.Language.Rights.{has}
use Rattle.psos_calls.specs.Levels.Level8.{SegState, view, win_room}
use Rattle.psos_calls.specs.Language.Views.{View, fits_in}
use Rattle.psos_segs.specs.Within.{AreWithin}

pub within_empty : AreWithin (empty {X = SegRow} {R = nat_cmp}) (empty {X = WinRow} {R = nat_cmp})
within_empty = record {
  rows = row_empty (λ _ r. (r.slot < SLOTS) × (r.len ≤ MOST_WORDS));
  parts = row_empty (λ _ w. w.base + w.len ≤ MOST_WORDS);
}

module _ {s : Table SegRow} {w : Table WinRow} (are : AreWithin s w) (u : ℕ) where
  pub within_made : (r : SegRow) → r.slot < SLOTS → r.len ≤ MOST_WORDS → AreWithin (put s u r) w
  within_made r slot len = record {
    rows = row_put (λ _ r. (r.slot < SLOTS) × (r.len ≤ MOST_WORDS)) s u r (slot, len) are.rows;
    parts = are.parts;
  }

  pub within_window : (r : WinRow) → r.base + r.len ≤ MOST_WORDS → AreWithin s (put w u r)
  within_window r inside = record {
    rows = are.rows;
    parts = row_put (λ _ w. w.base + w.len ≤ MOST_WORDS) w u r inside are.parts;
  }

  pub within_gone : (test : WinRow → Bool) → AreWithin (without s u) (kept test w)
  within_gone test = record {
    rows = row_without (λ _ r. (r.slot < SLOTS) × (r.len ≤ MOST_WORDS)) s u are.rows;
    parts = row_kept (λ _ w. w.base + w.len ≤ MOST_WORDS) test w are.parts;
  }

passed : (may inside room : Bool) → ◌≡◌ {A = LevelAnswer} (if may then (if inside then (if room then Done else No (Exhausted Windows)) else No Range) else No (Lacks Window)) Done → inside ≡ true
passed false inside room e = absurd (cc e)
passed true false room e = absurd (cc e)
passed true true room e = refl

-- where there is room for a window, it fits
pub room_fits : (s : SegState) (c : Capability) (base len : ℕ) (v : View) → view s c.uid ≡ Some v → win_room s c base len ≡ Done → base + len ≤ v.len
room_fits s c base len v is room =
    let tested = passed (has c Window) (fits_in v base len) (nat_lt (size s.windows) MOST_WINDOWS) (rw is at room) in
    leb-true _ _ (and_parts _ _ tested).1
