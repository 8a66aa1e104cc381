-- The levels as machines: what a call changes and answers. States docs/levels.md, "Calls".
pub mod Calls
pub mod Answers
pub mod Level7
pub mod Level8
pub mod Level9
pub mod Level10
pub mod Level11
pub mod Level12
pub mod Level13
pub mod Refusals
pub mod Lists
use Rattle.std.specs.Prelude.{◌≡◌, ℕ, ◌+◌, ◌-◌, ◌^◌, ◌<◌, Bool, true, false, IsTrue}
use Rattle.psos_caps.specs.Capability.{full}
use Rattle.psos_calls.specs.declared.level.Level.{Level}
use Rattle.psos_calls.specs.declared.level.Level.TheVariants.{L13, L12, L11, L10, L9, L8, L7, L0}
use Rattle.psos_calls.specs.Levels.Calls.{LevelCall}
use Rattle.psos_calls.specs.declared.level_call.LevelCall.TheVariants.{Hold13, Admit, CodeMake, Enter, CodeGone, Post, Draw, Hold11, Room, Enrol, KindOf, Forget, DirAt, DirMake, DirGone, RepOf, TypeAt, TypeMake, ObjMake, Impl, ObjGone, TypeGone, Locate, SlotOf, SegMake, SegGone, WinRoom, WinMake, Length, PageTake, PageDrop, WordGet, WordPut, PageGet, FourPut, Fresh}
use Rattle.psos_calls.specs.Levels.Answers.{LevelAnswer}
use Rattle.psos_calls.specs.declared.level_answer.LevelAnswer.TheVariants.{New}
use Rattle.psos_calls.specs.Levels.Level7.{Pages, act7, Can7}
use Rattle.psos_calls.specs.Levels.Level8.{SegState, act8, Can8}
use Rattle.psos_calls.specs.Levels.Level9.{TypeState, act9, Can9}
use Rattle.psos_calls.specs.Levels.Level10.{DirState, act10, Can10}
use Rattle.psos_calls.specs.Levels.Level11.{LifeState, act11, Can11}
use Rattle.psos_calls.specs.Levels.Level12.{BoxState, act12, Can12}
use Rattle.psos_calls.specs.Levels.Level13.{CodeState, act13, Can13}

-- the states of all levels; level 0's is the next identifier
pub record Levels : Type 0 where
  pub next : ℕ
  pub pages : Pages
  pub segs : SegState
  pub types : TypeState
  pub dirs : DirState
  pub life : LifeState
  pub boxes : BoxState
  pub codes : CodeState

-- the level of a call
abbrev pub level_of : LevelCall → Level
level_of Hold13 = L13
level_of (Admit word) = L13
level_of (CodeMake uid label link) = L13
level_of (Enter cap) = L13
level_of (CodeGone uid) = L13
level_of (Post to word) = L12
level_of (Draw uid) = L12
level_of Hold11 = L11
level_of Room = L11
level_of (Enrol uid kind) = L11
level_of (KindOf uid) = L11
level_of (Forget uid) = L11
level_of (DirAt cap right) = L10
level_of (DirMake uid guard) = L10
level_of (DirGone uid) = L10
level_of (RepOf uid) = L9
level_of (TypeAt cap) = L9
level_of (TypeMake uid) = L9
level_of (ObjMake uid of rep) = L9
level_of (Impl of on) = L9
level_of (ObjGone uid) = L9
level_of (TypeGone uid) = L9
level_of (Locate cap off need word) = L8
level_of (SlotOf uid) = L8
level_of (SegMake uid slot len guard) = L8
level_of (SegGone uid) = L8
level_of (WinRoom cap base len) = L8
level_of (WinMake uid cap base len) = L8
level_of (Length cap) = L8
level_of PageTake = L7
level_of (PageDrop slot) = L7
level_of (WordGet page off) = L7
level_of (WordPut page off word) = L7
level_of (PageGet page) = L7
level_of (FourPut page off words) = L7
level_of Fresh = L0

-- the call adds a row to a table of its level, and so may want memory
abbrev pub adds_row : LevelCall → Bool
adds_row (CodeMake uid label link) = true
adds_row (Enrol uid kind) = true
adds_row (DirMake uid guard) = true
adds_row (TypeMake uid) = true
adds_row (ObjMake uid of rep) = true
adds_row (SegMake uid slot len guard) = true
adds_row (WinMake uid cap base len) = true
adds_row _ = false

-- the call is of this level, and adds a row
abbrev pub AddsRowAt : Level → LevelCall → Type 0
AddsRowAt level call = (level_of call ≡ level) × IsTrue (adds_row call)

-- level 0: a new capability on the next identifier, which then rises by one
abbrev pub act0 : ℕ → LevelCall → ℕ × LevelAnswer
act0 next call = (next + 1, New (full next))

abbrev pub act_at : Level → Levels → LevelCall → Levels × LevelAnswer
act_at L13 l call = (record l { codes = (act13 l.codes call).0 }, (act13 l.codes call).1)
act_at L12 l call = (record l { boxes = (act12 l.boxes call).0 }, (act12 l.boxes call).1)
act_at L11 l call = (record l { life = (act11 l.life call).0 }, (act11 l.life call).1)
act_at L10 l call = (record l { dirs = (act10 l.dirs call).0 }, (act10 l.dirs call).1)
act_at L9 l call = (record l { types = (act9 l.types call).0 }, (act9 l.types call).1)
act_at L8 l call = (record l { segs = (act8 l.segs call).0 }, (act8 l.segs call).1)
act_at L7 l call = (record l { pages = (act7 l.pages call).0 }, (act7 l.pages call).1)
act_at L0 l call = (record l { next = (act0 l.next call).0 }, (act0 l.next call).1)

-- what a call leaves and answers. It changes its own level alone
abbrev pub act : Levels → LevelCall → Levels × LevelAnswer
act l call = act_at (level_of call) l call

abbrev pub Can_at : Level → Levels → LevelCall → Type 0
Can_at L13 l call = Can13 l.codes call
Can_at L12 l call = Can12 l.boxes call
Can_at L11 l call = Can11 l.life call
Can_at L10 l call = Can10 l.dirs call
Can_at L9 l call = Can9 l.types call
Can_at L8 l call = Can8 l.segs call
Can_at L7 l call = Can7 l.pages call
Can_at L0 l call = l.next < 2 ^ 64 - 1

-- the condition of a call
abbrev pub Can : Levels → LevelCall → Type 0
Can l call = Can_at (level_of call) l call
