-- How frames are kept: what each holds, the words of each that was ever filled, and for each page its frame.
use Rattle.std.specs.Prelude.{◌≡◌, ◌≤◌, ◌<◌, ◌⊎◌, ◌++◌, ℕ, Bool, true, List, [], ◌∷◌, Option, Some, None, length, is_some, slice_index_or}
use Rattle.psos_words.specs.declared.word.Word.{Word}
use Rattle.psos_words.specs.Words.{zeros}
use Rattle.psos_pages.specs.declared.held.Held.{Held}
use Rattle.psos_pages.specs.Frames.{Frame, frame_at, frame_of, free_frame}

-- a frame with these words, free or not
abbrev pub frame_with : Option Held → List Word → Option Frame
frame_with None words = None
frame_with (Some held) words = Some (record { page = held.page; words = words; used = held.used; changed = held.changed })

-- the frames, by what they hold and by the words that are kept
abbrev pub frames_of : List (Option Held) → List (List Word) → List (Option Frame)
frames_of [] words = []
frames_of (held ∷ rest) [] = frame_with held [] ∷ frames_of rest []
frames_of (held ∷ rest) (w ∷ words) = frame_with held w ∷ frames_of rest words

-- the frames, the hand, and which pages have their block
pub record FramesState : Type 0 where
  pub frames : List (Option Frame)
  pub hand : ℕ
  pub stored : List Bool

-- the frame where the hand stands
abbrev pub at_hand : FramesState → Option Frame
at_hand f = frame_at f.frames f.hand

-- a page lies in at most one frame
pub record IsOne (frames : List (Option Frame)) : Type 0 where
  pub one : (i j : ℕ) (f g : Frame) → frame_at frames i ≡ Some f → frame_at frames j ≡ Some g → f.page ≡ g.page → i ≡ j

-- the table of frames by page, and a frame from which the search for a free one can begin
pub record IsTable (frames : List (Option Frame)) (at : List (Option ℕ)) (first : ℕ) : Type 0 where
  pub least : first ≤ free_frame frames
  pub below : (i : ℕ) (f : Frame) → frame_at frames i ≡ Some f → f.page < 4168
  pub one : IsOne frames
  pub pages : length at ≡ 4168
  pub table : (page : ℕ) → page < 4168 → slice_index_or at page None ≡ frame_of frames page

-- the columns fit one another, and the table is that of the frames
pub record IsKept (held : List (Option Held)) (words : List (List Word)) (at : List (Option ℕ)) (stored : List Bool) (hand first : ℕ) : Type 0 where
  pub few : length held ≤ 256
  pub stands : hand < length held
  pub marks : length stored ≡ 4168
  pub there : (i : ℕ) → is_some (slice_index_or held i None) ≡ true → i < length words
  pub kept : IsTable (frames_of held words) at first

-- a frame that is not free
pub record IsHeld (frames : List (Option Frame)) (i : ℕ) : Type 0 where
  pub frame : Frame
  pub there : frame_at frames i ≡ Some frame

-- the same words of frames, and those of one frame more, or not
abbrev pub IsReached : List (List Word) → List (List Word) → Type 0
IsReached before now = (now ≡ before) ⊎ (now ≡ before ++ zeros 64 ∷ [])
