-- Frames that call no store yet.
use Rattle.std.specs.Prelude.{◌≡◌, ◌≤◌, ℕ, suc, List, [], ◌∷◌, Option, Some, None, slice_index_or, false}
use Rattle.psos_words.specs.declared.word.Word.{Word}
use Rattle.psos_calls.specs.Levels.Calls.{LevelCall}
use Rattle.psos_calls.specs.declared.level_call.LevelCall.TheVariants.{PageTake, WordGet, WordPut, PageGet, FourPut}
use Rattle.psos_pages.specs.Frames.{Frame, Paging, at_first, paged, calls_store}

-- how many frames are free
abbrev pub count_free : List (Option Frame) → ℕ
count_free [] = 0
count_free (None ∷ rest) = suc (count_free rest)
count_free (Some frame ∷ rest) = count_free rest

-- so many frames are free, and no page has a block
pub record IsQuiet (n : ℕ) (s : Paging) : Type 0 where
  pub room : n ≤ count_free s.frames
  pub none : (page : ℕ) → slice_index_or s.blocks page None ≡ None

-- a call that drops no slot reads and writes no block then, and takes at most one of the free frames
pub record StaysQuiet (s : Paging) (call : LevelCall) (n : ℕ) : Type 0 where
  pub silent : calls_store s call ≡ false
  pub quiet : IsQuiet n (paged s call)

-- so it is at first, and so it stays
pub record QuietFrames : Type 0 where
  pub start : (n : ℕ) → IsQuiet n (at_first n)
  pub take : (n : ℕ) (s : Paging) → IsQuiet n s → StaysQuiet s PageTake n
  pub get : (n : ℕ) (s : Paging) (page off : ℕ) → IsQuiet (suc n) s → StaysQuiet s (WordGet page off) n
  pub put : (n : ℕ) (s : Paging) (page off : ℕ) (word : Word) → IsQuiet (suc n) s → StaysQuiet s (WordPut page off word) n
  pub page : (n : ℕ) (s : Paging) (page : ℕ) → IsQuiet (suc n) s → StaysQuiet s (PageGet page) n
  pub four : (n : ℕ) (s : Paging) (page off : ℕ) (four : List Word) → IsQuiet (suc n) s → StaysQuiet s (FourPut page off four) n
