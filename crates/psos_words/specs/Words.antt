-- Lists of words. States docs/system.md, "Words".
use Rattle.std.specs.Prelude.{ℕ, ◌<◌, ◌^◌, List, slice_index_or, replicate}
use Rattle.psos_words.specs.declared.word.Word.{Word}
use Rattle.psos_words.specs.declared.word.Word.TheVariants.{Data, Cap}

-- so many words, each data 0
abbrev pub zeros : ℕ → List Word
zeros n = replicate n (Data 0)

-- the word at a place of a list; past its end, data 0
abbrev pub word_at : List Word → ℕ → Word
word_at words i = slice_index_or words i (Data 0)

-- data is below 2 ^ 64, an identifier too, and rights are below 2 ^ 16
abbrev pub IsWord : Word → Type 0
IsWord (Data n) = n < 2 ^ 64
IsWord (Cap cap) = (cap.uid < 2 ^ 64) × (cap.rights < 2 ^ 16)
