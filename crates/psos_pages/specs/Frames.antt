-- Frames over a backing store: which pages they hold, and what each call does to them. States docs/levels.md, "Frames".
use Rattle.std.specs.Prelude.{◌≡◌, ℕ, zero, suc, ◌+◌, ◌*◌, ◌==◌, ◌&&◌, ◌||◌, not, nat_lt, Bool, true, false, List, [], ◌∷◌, Option, Some, None, option_map, is_some, length, replicate, slice_set, slice_index_or, if◌then◌else◌}
use Rattle.psos_words.specs.declared.word.Word.{Word}
use Rattle.psos_words.specs.Words.{zeros}
use Rattle.psos_calls.specs.Language.Tests.{if_there}
use Rattle.psos_calls.specs.Levels.Level7.{written}
use Rattle.psos_calls.specs.Levels.Calls.{LevelCall}
use Rattle.psos_calls.specs.declared.level_call.LevelCall.TheVariants.{PageDrop, WordGet, WordPut, PageGet, FourPut}

-- a frame holds a page by its words, with the marks used and changed
pub record Frame : Type 0 where
  pub page : ℕ
  pub words : List Word
  pub used : Bool
  pub changed : Bool

-- the frames, each free or not; the frame where the hand stands; and, of each page that has its block, the words there
pub record Paging : Type 0 where
  pub frames : List (Option Frame)
  pub hand : ℕ
  pub blocks : List (Option (List Word))

-- at first so many frames are free, the hand stands at the first, and no page has a block
abbrev pub at_first : ℕ → Paging
at_first n = record { frames = replicate n None; hand = 0; blocks = replicate 4168 None }

-- ---- where a page is

abbrev pub frame_at : List (Option Frame) → ℕ → Option Frame
frame_at frames i = slice_index_or frames i None

abbrev pub holds : ℕ → Option Frame → Bool
holds page None = false
holds page (Some frame) = frame.page == page

-- the number of the frame that holds a page, if it is resident
abbrev pub frame_of : List (Option Frame) → ℕ → Option ℕ
frame_of [] page = None
frame_of (frame ∷ rest) page = if holds page frame then Some 0 else option_map suc (frame_of rest page)

-- the least free frame; where none is free, their number
abbrev pub free_frame : List (Option Frame) → ℕ
free_frame [] = 0
free_frame (None ∷ rest) = 0
free_frame (Some frame ∷ rest) = suc (free_frame rest)

-- the page is resident
abbrev pub IsResident : Paging → ℕ → Type 0
IsResident s page = is_some (frame_of s.frames page) ≡ true

abbrev pub frame_words : Option Frame → List Word
frame_words None = []
frame_words (Some frame) = frame.words

-- the words of a page's block; it is zero where it has none
abbrev pub block_words : List (Option (List Word)) → ℕ → List Word
block_words blocks page = if_there (slice_index_or blocks page None) (zeros 64) (λ words. words)

-- the words of a page: its frame's, else its block's, else all data 0
abbrev pub words_of : Paging → ℕ → List Word
words_of s page = if_there (frame_of s.frames page) (block_words s.blocks page) (λ i. frame_words (frame_at s.frames i))

-- ---- room for a page

-- of so many frames, the one after this one, in a circle
abbrev pub next_frame : ℕ → ℕ → ℕ
next_frame count i = if i + 1 == count then 0 else i + 1

abbrev pub is_used : Option Frame → Bool
is_used None = false
is_used (Some frame) = frame.used

abbrev pub unmarked : Frame → Frame
unmarked frame = record frame { used = false }

-- the frame of this number is another
abbrev pub at_frame : (Frame → Frame) → List (Option Frame) → ℕ → List (Option Frame)
at_frame change frames i = slice_set frames i (option_map change (frame_at frames i))

-- the hand passes over frames that are marked used, at most so many, and they lose the mark; it stands at the first that is not marked
unfoldable pub swept : ℕ → List (Option Frame) → ℕ → List (Option Frame) × ℕ
swept zero frames hand = (frames, hand)
swept (suc n) frames hand =
    if is_used (frame_at frames hand) then swept n (at_frame unmarked frames hand) (next_frame (length frames) hand) else (frames, hand)

abbrev pub page_in : Option Frame → ℕ
page_in None = 0
page_in (Some frame) = frame.page

-- the victim is written to its block where it was changed
abbrev pub saved : List (Option (List Word)) → Option Frame → List (Option (List Word))
saved blocks None = blocks
saved blocks (Some frame) = if frame.changed then slice_set blocks frame.page (Some frame.words) else blocks

-- the frame at the hand is free, and the hand stands on the next
abbrev pub evicted : Paging → Paging
evicted s = record { frames = slice_set s.frames s.hand None; hand = next_frame (length s.frames) s.hand; blocks = saved s.blocks (frame_at s.frames s.hand) }

abbrev pub has_free : Paging → Bool
has_free s = nat_lt (free_frame s.frames) (length s.frames)

-- as the hand finds the victim
abbrev pub chosen : Paging → Paging
chosen s = let c = swept (length s.frames) s.frames s.hand in record s { frames = c.0; hand = c.1 }

abbrev pub with_room : Paging → Paging
with_room s = if has_free s then s else evicted (chosen s)

-- ---- a page in its frame

-- a frame into which a page was just read
abbrev pub new_frame : ℕ → List Word → Frame
new_frame page words = record { page = page; words = words; used = true; changed = false }

-- the page is read from its block, if it has one, into a frame
abbrev pub filled : Paging → ℕ → ℕ → Paging
filled s i page = record s { frames = slice_set s.frames i (Some (new_frame page (block_words s.blocks page))) }

-- the page in the free frame of least number
abbrev pub fetched : Paging → ℕ → Paging × ℕ
fetched s page = (filled s (free_frame s.frames) page, free_frame s.frames)

-- the page is resident; and the number of its frame
abbrev pub brought : Paging → ℕ → Paging × ℕ
brought s page = if_there (frame_of s.frames page) (fetched (with_room s) page) (λ i. (s, i))

-- ---- accesses

abbrev pub looked_at : Frame → Frame
looked_at frame = record frame { used = true }

abbrev pub put_in : (List Word → List Word) → Frame → Frame
put_in change frame = record frame { words = change frame.words; used = true; changed = true }

-- a word, or four, written over those of a page
abbrev pub put_at : ℕ → Word → List Word → List Word
put_at off word = λ words. slice_set words off word

abbrev pub four_at : ℕ → List Word → List Word → List Word
four_at off four = λ words. written words off four

-- the page in this frame is accessed
abbrev pub accessed : (Frame → Frame) → Paging × ℕ → Paging
accessed change b = record b.0 { frames = at_frame change b.0.frames b.1 }

-- ---- pages that go

abbrev pub without_page : List (Option Frame) → ℕ → List (Option Frame)
without_page frames page = if_there (frame_of frames page) frames (λ i. slice_set frames i None)

-- the page is zero, and has neither a frame nor a block
abbrev pub forgotten : Paging → ℕ → Paging
forgotten s page = record s { frames = without_page s.frames page; blocks = slice_set s.blocks page None }

-- so many pages from this one on
unfoldable pub dropped : ℕ → Paging → ℕ → Paging
dropped zero s page = s
dropped (suc n) s page = dropped n (forgotten s page) (page + 1)

-- ---- the calls of level 7

abbrev pub paged : Paging → LevelCall → Paging
paged s (PageDrop slot) = dropped 8 s (8 * slot)
paged s (WordGet page off) = accessed looked_at (brought s page)
paged s (WordPut page off word) = accessed (put_in (put_at off word)) (brought s page)
paged s (PageGet page) = accessed looked_at (brought s page)
paged s (FourPut page off four) = accessed (put_in (four_at off four)) (brought s page)
paged s _ = s

-- ---- when the store is called

abbrev pub is_changed : Option Frame → Bool
is_changed None = false
is_changed (Some frame) = frame.changed

-- a page that is to be brought writes the victim's block
abbrev pub writes : Paging → Bool
writes s = not (has_free s) && is_changed (frame_at (chosen s).frames (chosen s).hand)

-- it reads its own
abbrev pub reads : Paging → ℕ → Bool
reads s page = is_some (slice_index_or s.blocks page None)

abbrev pub needs_store : Paging → ℕ → Bool
needs_store s page = if_there (frame_of s.frames page) (writes s || reads s page) (λ i. false)

-- a call that reads or writes a block
abbrev pub calls_store : Paging → LevelCall → Bool
calls_store s (WordGet page off) = needs_store s page
calls_store s (WordPut page off word) = needs_store s page
calls_store s (PageGet page) = needs_store s page
calls_store s (FourPut page off four) = needs_store s page
calls_store s _ = false
