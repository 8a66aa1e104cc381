-- The lines of a text, and the words of a line.
use Rattle.std.specs.Prelude.{◌≡◌, ℕ, ◌+◌, ◌<◌, ◌≤◌, Bool, true, false, ◌==◌, if◌then◌else◌, not, List, [], ◌∷◌, length, take, drop, filter}
use Rattle.std.specs.List.{slice_split, onto_first}

-- the pieces that line feeds end, and what is left after the last, if anything is
abbrev pub lines_of : List ℕ → List (List ℕ)
lines_of [] = []
lines_of (b ∷ bs) = if b == 10 then [] ∷ lines_of bs else onto_first b (lines_of bs)

-- there is no byte
abbrev pub is_empty : List ℕ → Bool
is_empty [] = true
is_empty (b ∷ bs) = false

-- the pieces between spaces that are not empty
unfoldable pub words_of : List ℕ → List (List ℕ)
words_of line = filter (λ w. not (is_empty w)) (slice_split (λ b. b == 32) line)

-- the first word stands at this place of the text, and so many bytes of it
pub record IsFirstWord (text : List ℕ) (place size : ℕ) : Type 0 where
  pub some : 0 < size
  pub within : place + size ≤ length text
  pub words : words_of text ≡ take size (drop place text) ∷ words_of (drop size (drop place text))
