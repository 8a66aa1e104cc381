-- Pages that are an entry list. States docs/system.md, "Words in blocks and directories".
use Rattle.std.specs.Prelude.{◌≡◌, ◌≤◌, Bool, true, List, [], length, Some, if◌then◌else◌, nat_lt}
use Rattle.std.specs.Option.{unwrap_or}
use Rattle.psos_words.specs.declared.word.Word.{Word}
use Rattle.psos_words.specs.Words.{word_at}
use Rattle.psos_words.specs.Directory.{Slot, decode}
use Rattle.psos_dirrep.specs.Pages.{words_of, ArePages}
use Rattle.psos_dirrep.specs.Scan.{is_never}

-- the 127 entry slots that words are, where they are an entry list
abbrev pub entry_list : List Word → List Slot
entry_list words = unwrap_or (decode words) []

-- at most eight pages that are an entry list
pub record IsEntryList (pages : List (List Word)) : Type 0 where
  pub are : ArePages pages
  pub few : length pages ≤ 8
  pub list : decode (words_of pages) ≡ Some (entry_list (words_of pages))

-- at most eight pages that are a directory with these entry slots
pub record AreDirectory (pages : List (List Word)) (slots : List Slot) : Type 0 where
  pub are : ArePages pages
  pub few : length pages ≤ 8
  pub decoded : decode (words_of pages) ≡ Some slots

-- the last of 128 slots was never used, or is not on these pages
abbrev pub ends_never : List (List Word) → Bool
ends_never pages = if nat_lt (length pages) 8 then true else is_never (word_at (words_of pages) 508)
