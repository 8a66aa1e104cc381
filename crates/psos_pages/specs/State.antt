-- The state of level 7 over its backing store: frames, blocks, and the words that the levels above see. States docs/levels.md, "Pages and slots".
use Rattle.std.specs.Prelude.{◌≡◌, ◌≤◌, ◌<◌, ℕ, zero, suc, ◌+◌, ◌/◌, Bool, true, false, List, [], ◌∷◌, ◌++◌, Option, Some, None, length, is_some, slice_index_or, slice_set}
use Rattle.psos_words.specs.declared.word.Word.{Word}
use Rattle.psos_words.specs.Words.{zeros}
use Rattle.psos_words.specs.Block.{page_of}
use Rattle.psos_calls.specs.Language.Tests.{if_there}
use Rattle.psos_calls.specs.Levels.Level7.{Pages, IsTaken, page_words}
use Rattle.psos_pages.specs.Frames.{Frame, Paging, frame_at, words_of, block_words, without_page}
use Rattle.psos_pages.specs.Kept.{FramesState, IsOne}

-- the words of so many pages, from this one on
unfoldable pub pages_from : ℕ → Paging → ℕ → List Word
pages_from zero s page = []
pages_from (suc n) s page = words_of s page ++ pages_from n s (page + 1)

abbrev pub slot_with : Bool → List Word → Option (List Word)
slot_with false words = None
slot_with true words = Some words

-- the slots, the first of which begins at this page
abbrev pub slots_from : ℕ → List Bool → Paging → Pages
slots_from page [] s = []
slots_from page (t ∷ taken) s = slot_with t (pages_from 8 s page) ∷ slots_from (page + 8) taken s

-- the slots that the levels above see
abbrev pub slots_of : List Bool → Paging → Pages
slots_of taken s = slots_from 0 taken s

-- the words that a block reads as; data 0 where it is no page
abbrev pub read_from : List ℕ → List Word
read_from bytes = if_there (page_of bytes) (zeros 64) (λ words. words)

-- a page's block, by its bytes
abbrev pub block_if : Bool → List ℕ → Option (List Word)
block_if false bytes = None
block_if true bytes = page_of bytes

-- the blocks of pages, by which pages have theirs, and by the bytes of the store
abbrev pub blocks_of : List Bool → List (List ℕ) → List (Option (List Word))
blocks_of [] bytes = []
blocks_of (s ∷ stored) [] = block_if s [] ∷ blocks_of stored []
blocks_of (s ∷ stored) (b ∷ bytes) = block_if s b ∷ blocks_of stored bytes

-- the words of a page's block, or data 0 where it has none
abbrev pub words_stored : FramesState → List (List ℕ) → ℕ → List Word
words_stored f bytes page = block_words (blocks_of f.stored bytes) page

abbrev pub paging_of : FramesState → List (List ℕ) → Paging
paging_of f bytes = record { frames = f.frames; hand = f.hand; blocks = blocks_of f.stored bytes }

-- each block that a page has is a page
pub record AreStored (stored : List Bool) (bytes : List (List ℕ)) : Type 0 where
  pub is_page : (page : ℕ) → slice_index_or stored page false ≡ true → is_some (page_of (slice_index_or bytes page [])) ≡ true

-- what always holds of frames and blocks, where these slots are taken: a page lies in at most one frame, has 64 words, is as its
-- block where it was not changed, and belongs to a taken slot
pub record IsSound (taken : List Bool) (frames : List (Option Frame)) (blocks : List (Option (List Word))) : Type 0 where
  pub one : IsOne frames
  pub whole : (i : ℕ) (f : Frame) → frame_at frames i ≡ Some f → length f.words ≡ 64
  pub full : (p : ℕ) (words : List Word) → slice_index_or blocks p None ≡ Some words → length words ≡ 64
  pub clean : (i : ℕ) (f : Frame) → frame_at frames i ≡ Some f → f.changed ≡ false → f.words ≡ block_words blocks f.page
  pub live : (i : ℕ) (f : Frame) → frame_at frames i ≡ Some f → slice_index_or taken (f.page / 8) false ≡ true
  pub kept : (p : ℕ) (words : List Word) → slice_index_or blocks p None ≡ Some words → slice_index_or taken (p / 8) false ≡ true

pub record IsPaged (taken : List Bool) (f : FramesState) (bytes : List (List ℕ)) : Type 0 where
  pub slots : length taken ≡ 521
  pub marks : length f.stored ≡ 4168
  pub some : 8 ≤ length f.frames
  pub stands : f.hand < length f.frames
  pub sound : IsSound taken f.frames (blocks_of f.stored bytes)
  pub stored : AreStored f.stored bytes

-- the slots, the frames and blocks beneath them, and the backing store
pub record PagesState (B : Type 0) : Type 0 where
  pub slots : Pages
  pub paging : Paging
  pub store : B

-- so many pages are forgotten by the frames, from this one on
abbrev pub without : FramesState → ℕ → FramesState
without f page = record { frames = without_page f.frames page; hand = f.hand; stored = slice_set f.stored page false }

unfoldable pub without_pages : ℕ → FramesState → ℕ → FramesState
without_pages zero f page = f
without_pages (suc n) f page = without_pages n (without f page) (page + 1)

-- the words of a page of a taken slot are its frame's, else its block's, else data 0
pub record ShowsWords (slots : Pages) (s : Paging) : Type 0 where
  pub shown : (page : ℕ) → IsTaken slots (page / 8) → page_words slots page ≡ words_of s page

-- the block of each page that has one reads as its words
pub record HoldsBlocks (blocks : List (Option (List Word))) (bytes : List (List ℕ)) : Type 0 where
  pub held : (page : ℕ) (words : List Word) → slice_index_or blocks page None ≡ Some words → page_of (slice_index_or bytes page []) ≡ Some words
