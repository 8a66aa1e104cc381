-- The levels at boot. States docs/levels.md, "Pages and slots".
use Rattle.std.specs.Prelude.{ℕ, ◌+◌, ◌-◌, ◌*◌, true, List, [], ◌∷◌, ◌++◌, length, replicate, Some, None}
use Rattle.std.specs.FinMap as map
use Rattle.psos_limits.specs.declared.TheConstants.{MOST_WORDS}
use Rattle.psos_table.specs.Table.{Table, put}
use Rattle.psos_caps.specs.Capability.{full}
use Rattle.psos_words.specs.declared.word.Word.{Word}
use Rattle.psos_words.specs.Words.{zeros}
use Rattle.psos_words.specs.Directory.{entry_words}
use Rattle.psos_calls.specs.declared.seg_row.SegRow.{SegRow}
use Rattle.psos_calls.specs.declared.obj_row.ObjRow.{ObjRow}
use Rattle.psos_calls.specs.Language.Script.{Script, UserScript}
use Rattle.psos_calls.specs.Levels.Level7.{Pages, written}
use Rattle.psos_calls.specs.Levels.Level10.{DirState}
use Rattle.psos_calls.specs.Levels.{Levels}
use Rattle.psos_model.specs.Flat.Boot.{home_of, home_rep_of, scratch_of, guard_1, scratch_name, boot_next, boot_life, boot_boxes}

-- the root's representation has slot 0, user i's home slot 1 + 2i and its scratch segment slot 2 + 2i
abbrev pub home_slot : ℕ → ℕ
home_slot i = 1 + 2 * i

abbrev pub scratch_slot : ℕ → ℕ
scratch_slot i = 2 + 2 * i

-- the words of user i's home: the entry of its scratch segment in entry slot 0
abbrev pub home_words : ℕ → List Word
home_words i = written (zeros MOST_WORDS) 0 (entry_words scratch_name (full (scratch_of i)) true)

-- the taken slots of users, and then the free ones
abbrev pub user_slots : ℕ → List UserScript → Pages
user_slots i [] = []
user_slots i (user ∷ users) = Some (home_words i) ∷ Some (zeros MOST_WORDS) ∷ user_slots (i + 1) users

-- all slots
abbrev pub boot_pages : Script → Pages
boot_pages s = Some (zeros MOST_WORDS) ∷ (user_slots 0 s.users ++ replicate (520 - 2 * length s.users) None)

-- the representation of a directory in this slot
abbrev pub rep_row : ℕ → SegRow
rep_row slot = record { slot = slot; len = MOST_WORDS; guard = guard_1 }

-- user i's scratch segment
abbrev pub scratch_row : ℕ → SegRow
scratch_row i = record { slot = scratch_slot i; len = 64; guard = guard_1 }

-- the representations of the root and of the homes
abbrev pub boot_reps : ℕ → List UserScript → Table SegRow
boot_reps i [] = put map.empty 2 (rep_row 0)
boot_reps i (user ∷ users) = put (boot_reps (i + 1) users) (home_rep_of i) (rep_row (home_slot i))

-- and the scratch segments beside them
abbrev pub boot_scratch : Table SegRow → ℕ → List UserScript → Table SegRow
boot_scratch reps i [] = reps
boot_scratch reps i (user ∷ users) = put (boot_scratch reps (i + 1) users) (scratch_of i) (scratch_row i)

abbrev pub boot_rows : List UserScript → Table SegRow
boot_rows users = boot_scratch (boot_reps 0 users) 0 users

-- level 9 has each directory with no type
abbrev pub boot_objects : ℕ → List UserScript → Table ObjRow
boot_objects i [] = put map.empty 1 (record { of = None; rep = full 2 })
boot_objects i (user ∷ users) = put (boot_objects (i + 1) users) (home_of i) (record { of = None; rep = full (home_rep_of i) })

-- the guards of directories
abbrev pub boot_guards : ℕ → List UserScript → DirState
boot_guards i [] = put map.empty 1 guard_1
boot_guards i (user ∷ users) = put (boot_guards (i + 1) users) (home_of i) guard_1

-- all levels, with no window, type or code
abbrev pub boot_levels : Script → Levels
boot_levels s = record {
  next = boot_next s;
  pages = boot_pages s;
  segs = record { segments = boot_rows s.users; windows = map.empty };
  types = record { types = map.empty; objects = boot_objects 0 s.users };
  dirs = boot_guards 0 s.users;
  life = boot_life 0 s.users;
  boxes = boot_boxes 0 s.users;
  codes = map.empty;
}
