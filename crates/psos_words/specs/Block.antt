-- Words in the blocks of the backing store. States docs/system.md, "Words in blocks and directories".
use Rattle.std.specs.Prelude.{ℕ, zero, suc, ◌+◌, ◌*◌, ◌/◌, ◌%◌, ◌^◌, ◌==◌, nat_lt, Bool, true, false, List, [], ◌∷◌, ◌++◌, take, drop, Option, Some, None, option_map, if◌then◌else◌}
use Rattle.std.specs.Option.{option_and_then}
use Rattle.std.specs.Int.{w64, w128, to_le_bytes, from_le_bytes}
use Rattle.std.specs.List.{flat_map}
use Rattle.psos_caps.specs.Capability.{payload_of}
use Rattle.psos_words.specs.declared.word.Word.{Word}
use Rattle.psos_words.specs.declared.word.Word.TheVariants.{Data, Cap}

-- the number that stands for a word, without its tag
abbrev pub word_payload : Word → ℕ
word_payload (Data n) = n
word_payload (Cap cap) = payload_of cap

-- its tag
abbrev pub is_cap : Word → Bool
is_cap (Data n) = false
is_cap (Cap cap) = true

-- its 16 bytes, the lowest first
abbrev pub word_bytes : Word → List ℕ
word_bytes w = to_le_bytes w128 (word_payload w)

-- the tags of words, of which the first weighs so much
abbrev pub tags_from : ℕ → List Word → ℕ
tags_from weight [] = 0
tags_from weight (Data n ∷ rest) = tags_from (2 * weight) rest
tags_from weight (Cap cap ∷ rest) = weight + tags_from (2 * weight) rest

-- the 1,032 bytes of a page: its words' payloads, and a mask whose bit i is set where word i is a capability
abbrev pub block_of : List Word → List ℕ
block_of words = flat_map word_bytes words ++ to_le_bytes w64 (tags_from 1 words)

-- the word of a number, by its tag: a capability's number is below 2 ^ 80, and data is below 2 ^ 64
abbrev pub word_from : Bool → ℕ → Option Word
word_from true n = if nat_lt n (2 ^ 80) then Some (Cap (record { uid = n % 2 ^ 64; rights = n / 2 ^ 64 })) else None
word_from false n = if nat_lt n (2 ^ 64) then Some (Data n) else None

-- the number of the first word of bytes
abbrev pub first_number : List ℕ → ℕ
first_number bytes = from_le_bytes w128 (take 16 bytes)

-- so many words that begin here, with these tags, if all of them are words
unfoldable pub words_from : ℕ → List ℕ → ℕ → Option (List Word)
words_from zero bytes tags = Some []
words_from (suc n) bytes tags =
    option_and_then (λ w. option_map (λ rest. w ∷ rest) (words_from n (drop 16 bytes) (tags / 2))) (word_from (tags % 2 == 1) (first_number bytes))

-- the tags of a block
abbrev pub block_tags : List ℕ → ℕ
block_tags block = from_le_bytes w64 (take 8 (drop 1024 block))

-- the words of the page that a block is, if it is one
abbrev pub page_of : List ℕ → Option (List Word)
page_of block = words_from 64 block (block_tags block)
