-- Level 7: pages. States docs/levels.md, "Pages and slots".
use Rattle.std.specs.Prelude.{⊤, ◌≡◌, Bool, true, false, ℕ, suc, ◌+◌, ◌*◌, ◌/◌, ◌%◌, ◌<◌, ◌≤◌, List, [], ◌∷◌, Option, Some, None, length, take, drop, slice_set, slice_index_or}
use Rattle.psos_limits.specs.declared.TheConstants.{MOST_WORDS}
use Rattle.psos_words.specs.declared.word.Word.{Word}
use Rattle.psos_words.specs.Words.{zeros, word_at}
use Rattle.psos_calls.specs.Levels.Calls.{LevelCall}
use Rattle.psos_calls.specs.declared.level_call.LevelCall.TheVariants.{PageTake, PageDrop, WordGet, WordPut, PageGet, FourPut}
use Rattle.psos_calls.specs.Levels.Answers.{LevelAnswer}
use Rattle.psos_calls.specs.declared.level_answer.LevelAnswer.TheVariants.{Done, Slot, Got, Whole}

-- 521 slots, each free or with the 512 words of its eight pages
abbrev pub Pages : Type 0
Pages = List (Option (List Word))

-- where a word of a page lies among those of its slot
abbrev pub place_in_slot : ℕ → ℕ → ℕ
place_in_slot page off = page % 8 * 64 + off

abbrev pub words_in : Option (List Word) → List Word
words_in None = []
words_in (Some words) = words

-- the words of a slot, and none where it is free
abbrev pub slot_words : Pages → ℕ → List Word
slot_words pages slot = words_in (slice_index_or pages slot None)

-- the words of the slot of a page
abbrev pub around : Pages → ℕ → List Word
around pages page = slot_words pages (page / 8)

-- the slot of a page, with these words
abbrev pub with_words : Pages → ℕ → List Word → Pages
with_words pages page words = slice_set pages (page / 8) (Some words)

-- the 64 words of a page
abbrev pub page_words : Pages → ℕ → List Word
page_words pages page = take 64 (drop (place_in_slot page 0) (around pages page))

-- words with others written over them, from a place on
abbrev pub written : List Word → ℕ → List Word → List Word
written words i [] = words
written words i (w ∷ rest) = written (slice_set words i w) (i + 1) rest

-- the least free slot
abbrev pub first_free : Pages → ℕ
first_free [] = 0
first_free (None ∷ rest) = 0
first_free (Some words ∷ rest) = suc (first_free rest)

abbrev pub act7 : Pages → LevelCall → Pages × LevelAnswer
act7 p PageTake = (slice_set p (first_free p) (Some (zeros MOST_WORDS)), Slot (first_free p))
act7 p (PageDrop slot) = (slice_set p slot None, Done)
act7 p (WordGet page off) = (p, Got (word_at (around p page) (place_in_slot page off)))
act7 p (WordPut page off word) = (with_words p page (slice_set (around p page) (place_in_slot page off) word), Done)
act7 p (PageGet page) = (p, Whole (page_words p page))
act7 p (FourPut page off words) = (with_words p page (written (around p page) (place_in_slot page off) words), Done)
act7 p _ = (p, Done)

-- the call reads a page
abbrev pub reads_page : LevelCall → Bool
reads_page (PageGet page) = true
reads_page _ = false

-- the slot is taken
abbrev pub IsTaken : Pages → ℕ → Type 0
IsTaken p slot = (words : List Word) × (slice_index_or p slot None ≡ Some words)

-- the condition of each call
abbrev pub Can7 : Pages → LevelCall → Type 0
Can7 p PageTake = first_free p < length p
Can7 p (PageDrop slot) = IsTaken p slot
Can7 p (WordGet page off) = IsTaken p (page / 8) × (off < 64)
Can7 p (WordPut page off word) = IsTaken p (page / 8) × (off < 64)
Can7 p (PageGet page) = IsTaken p (page / 8)
Can7 p (FourPut page off words) = IsTaken p (page / 8) × (off ≤ 60)
Can7 p _ = ⊤
