-- Level 8: segments and windows. States docs/levels.md, "Calls".
use Rattle.std.specs.Prelude.{⊤, ◌≡◌, ℕ, ◌+◌, ◌*◌, ◌/◌, ◌%◌, ◌<◌, ◌≤◌, IsSome, nat_lt, Option, Some, None}
use Rattle.std.specs.Option.{option_map}
use Rattle.psos_limits.specs.declared.TheConstants.{SLOTS, MOST_WORDS, MOST_WINDOWS}
use Rattle.psos_table.specs.Table.{Table, at, put, without, kept, size}
use Rattle.psos_caps.specs.Capability.{Capability}
use Rattle.psos_words.specs.declared.word.Word.{Word}
use Rattle.psos_words.specs.Guard.{barred}
use Rattle.psos_calls.specs.declared.seg_row.SegRow.{SegRow}
use Rattle.psos_calls.specs.declared.win_row.WinRow.{WinRow}
use Rattle.psos_calls.specs.declared.right.Right.{Right}
use Rattle.psos_calls.specs.declared.right.Right.TheVariants.{Read, Window}
use Rattle.psos_calls.specs.declared.kind.Kind.TheVariants.{Segment}
use Rattle.psos_calls.specs.declared.tab.Tab.TheVariants.{Windows}
use Rattle.psos_calls.specs.declared.refusal.Refusal.TheVariants.{Absent, Lacks, Range, Guarded, Exhausted}
use Rattle.psos_calls.specs.Levels.Calls.{LevelCall}
use Rattle.psos_calls.specs.declared.level_call.LevelCall.TheVariants.{Locate, SlotOf, SegMake, SegGone, WinRoom, WinMake, Length}
use Rattle.psos_calls.specs.Levels.Answers.{LevelAnswer}
use Rattle.psos_calls.specs.declared.level_answer.LevelAnswer.TheVariants.{Done, At, Slot, Len, No}
use Rattle.psos_calls.specs.Language.Rights.{has}
use Rattle.psos_calls.specs.Language.Tests.{if_there, if_none, if_holds}
use Rattle.psos_calls.specs.Language.Views.{Shape, View, view_in, fits_in, part_of, is_not_over}

pub record SegState : Type 0 where
  pub segments : Table SegRow
  pub windows : Table WinRow

abbrev pub shape_of : SegRow → Shape
shape_of r = record { len = r.len; guard = r.guard }

abbrev pub shapes : SegState → ℕ → Option Shape
shapes s u = option_map shape_of (at s.segments u)

abbrev pub view : SegState → ℕ → Option View
view s u = view_in (shapes s) (at s.windows) u

-- the slot of a live segment
abbrev pub slot_of : SegState → ℕ → ℕ
slot_of s u = if_there (at s.segments u) 0 (λ r. r.slot)

-- the page in which word i of a segment in this slot lies
abbrev pub page_at : ℕ → ℕ → ℕ
page_at slot i = 8 * slot + i / 64

abbrev pub located : SegState → View → ℕ → LevelAnswer
located s v off = At (page_at (slot_of s v.seg) (v.base + off)) ((v.base + off) % 64)

abbrev pub barred_by : ℕ → Option Word → Option ℕ
barred_by guard None = None
barred_by guard (Some w) = barred guard w

-- where word off of what the capability names lies, by the right that is needed, for the word that goes there
abbrev pub locate : SegState → Capability → ℕ → Right → Option Word → LevelAnswer
locate s cap off need word =
    if_there (view s cap.uid) (No (Absent Segment)) (λ v.
    if_holds (has cap need) (No (Lacks need)) (
    if_holds (nat_lt off v.len) (No Range) (
    if_none (barred_by v.guard.0 word) (λ b. No (Guarded b)) (
    located s v off))))

abbrev pub win_room : SegState → Capability → ℕ → ℕ → LevelAnswer
win_room s cap base len =
    if_there (view s cap.uid) (No (Absent Segment)) (λ v.
    if_holds (has cap Window) (No (Lacks Window)) (
    if_holds (fits_in v base len) (No Range) (
    if_holds (nat_lt (size s.windows) MOST_WINDOWS) (No (Exhausted Windows)) (
    Done))))

-- the windows with one more, where the view is there
abbrev pub win_made : SegState → ℕ → Capability → ℕ → ℕ → Table WinRow
win_made s u cap base len = if_there (view s cap.uid) s.windows (λ v. put s.windows u (part_of v base len))

abbrev pub length_of : SegState → Capability → LevelAnswer
length_of s cap =
    if_there (view s cap.uid) (No (Absent Segment)) (λ v.
    if_holds (has cap Read) (No (Lacks Read)) (
    Len v.len))

abbrev pub act8 : SegState → LevelCall → SegState × LevelAnswer
act8 s (Locate cap off need word) = (s, locate s cap off need word)
act8 s (SlotOf uid) = (s, Slot (slot_of s uid.0))
act8 s (SegMake uid slot len guard) = (record s { segments = put s.segments uid.0 (record { slot = slot; len = len; guard = guard }) }, Done)
act8 s (SegGone uid) = (record { segments = without s.segments uid.0; windows = kept (is_not_over uid.0) s.windows }, Slot (slot_of s uid.0))
act8 s (WinRoom cap base len) = (s, win_room s cap base len)
act8 s (WinMake uid cap base len) = (record s { windows = win_made s uid.0 cap base len }, Done)
act8 s (Length cap) = (s, length_of s cap)
act8 s _ = (s, Done)

-- neither a live segment nor a live window
abbrev pub IsNew : SegState → ℕ → Type 0
IsNew s u = (at s.segments u ≡ None) × (at s.windows u ≡ None)

-- the condition of each call
abbrev pub Can8 : SegState → LevelCall → Type 0
Can8 s (SlotOf uid) = IsSome (at s.segments uid.0)
Can8 s (SegMake uid slot len guard) = IsNew s uid.0 × (slot < SLOTS) × (1 ≤ len) × (len ≤ MOST_WORDS)
Can8 s (SegGone uid) = IsSome (at s.segments uid.0)
Can8 s (WinMake uid cap base len) = IsNew s uid.0 × (win_room s cap base len ≡ Done)
Can8 s _ = ⊤
