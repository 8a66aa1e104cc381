-- When the words of each live directory are an entry list. States docs/levels.md, "Directories in words".
use Rattle.std.specs.Prelude.{◌≡◌, ℕ, List, length, Some}
use Rattle.psos_limits.specs.declared.TheConstants.{SLOTS, MOST_WORDS}
use Rattle.psos_table.specs.Table.{at}
use Rattle.psos_caps.specs.declared.rights.Rights.{Rights}
use Rattle.psos_words.specs.Directory.{Slot, decode}
use Rattle.psos_calls.specs.declared.kind.Kind.TheVariants.{Directory}
use Rattle.psos_calls.specs.declared.obj_row.ObjRow.{ObjRow}
use Rattle.psos_calls.specs.declared.seg_row.SegRow.{SegRow}
use Rattle.psos_calls.specs.Levels.Level7.{IsTaken, slot_words}
use Rattle.psos_calls.specs.Levels.{Levels}

-- level 9 has the directory with its representation, which is a live segment of 512 words that are an entry list
pub record HasList (l : Levels) (u : ℕ) : Type 0 where
  pub object : ObjRow
  pub there : at l.types.objects u ≡ Some object
  pub segment : SegRow
  pub live : at l.segs.segments object.rep.uid ≡ Some segment
  pub len : segment.len ≡ MOST_WORDS
  pub taken : IsTaken l.pages segment.slot
  pub long : length (slot_words l.pages segment.slot) ≡ MOST_WORDS
  pub entry_slots : List Slot
  pub list : decode (slot_words l.pages segment.slot) ≡ Some entry_slots

-- each live directory has an entry list, and what is a directory by its kind is a live one. There are 521 slots of pages
pub record HasLists (l : Levels) : Type 0 where
  pub slots : length l.pages ≡ SLOTS
  pub each : (u : ℕ) (guard : Rights) → at l.dirs u ≡ Some guard → HasList l u
  pub kinds : (u : ℕ) → at l.life u ≡ Some Directory → (guard : Rights) × (at l.dirs u ≡ Some guard)
