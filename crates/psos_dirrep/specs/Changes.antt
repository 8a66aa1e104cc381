-- What writing one slot does to a directory. States docs/levels.md, "Directories in words".
use Rattle.std.specs.Prelude.{◌≡◌, ◌≢◌, ℕ, List, length, slice_get, slice_set, Some, None}
use Rattle.psos_limits.specs.declared.TheConstants.{MOST_WORDS}
use Rattle.psos_text.specs.declared.name.Name.{Name}
use Rattle.psos_text.specs.Name.{IsName}
use Rattle.psos_words.specs.declared.word.Word.{Word}
use Rattle.psos_words.specs.Directory.{Entry, Slot, Gone, Used, decode, find, slot_for}

-- 512 words are a directory with these entry slots
pub record IsWhole (words : List Word) (slots : List Slot) : Type 0 where
  pub long : length words ≡ MOST_WORDS
  pub decoded : decode words ≡ Some slots

-- the least slot that is not used is slot k, and no entry has the name of the new one
pub record HasRoom (words : List Word) (slots : List Slot) (k : ℕ) (e : Entry) : Type 0 where
  pub whole : IsWhole words slots
  pub slot : slot_for slots ≡ Some k
  pub new : find slots e.name ≡ None
  pub named : IsName e.name

-- the words are the directory with the entry in slot k: it is found by its name, and each other name is as before
pub record HasAdded (words : List Word) (slots : List Slot) (k : ℕ) (e : Entry) : Type 0 where
  pub whole : IsWhole words (slice_set slots k (Used e))
  pub found : find (slice_set slots k (Used e)) e.name ≡ Some (record { slot = k; entry = e })
  pub others : (name : Name) → name ≢ e.name → find (slice_set slots k (Used e)) name ≡ find slots name

-- slot k holds the entry
pub record HasEntry (words : List Word) (slots : List Slot) (k : ℕ) (e : Entry) : Type 0 where
  pub whole : IsWhole words slots
  pub there : slice_get slots k ≡ Some (Used e)

-- the words are the directory without the entry: its name is not found, and each other name is as before
pub record HasRemoved (words : List Word) (slots : List Slot) (k : ℕ) (e : Entry) : Type 0 where
  pub whole : IsWhole words (slice_set slots k Gone)
  pub gone : find (slice_set slots k Gone) e.name ≡ None
  pub others : (name : Name) → name ≢ e.name → find (slice_set slots k Gone) name ≡ find slots name
