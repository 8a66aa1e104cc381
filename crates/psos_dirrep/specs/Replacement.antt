-- Words written over others. States docs/levels.md, "Directories in words".
use Rattle.std.specs.Prelude.{ℕ, ◌+◌, List, [], ◌∷◌, slice_set}
use Rattle.psos_words.specs.declared.word.Word.{Word}

-- words with others in the places from i on
abbrev pub with_words : List Word → ℕ → List Word → List Word
with_words words i [] = words
with_words words i (w ∷ rest) = with_words (slice_set words i w) (i + 1) rest
