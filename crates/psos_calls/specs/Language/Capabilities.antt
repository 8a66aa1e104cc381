-- Identifiers, and the capabilities among words.
use Rattle.std.specs.Prelude.{ℕ, List, [], ◌∷◌}
use Rattle.psos_caps.specs.Capability.{Capability}
use Rattle.psos_caps.specs.declared.cap.Uid.{Uid}
use Rattle.psos_words.specs.declared.word.Word.{Word}
use Rattle.psos_words.specs.declared.word.Word.TheVariants.{Data, Cap}

-- the capabilities among words
abbrev pub capabilities : List Word → List Capability
capabilities [] = []
capabilities (Data n ∷ rest) = capabilities rest
capabilities (Cap cap ∷ rest) = cap ∷ capabilities rest

-- the identifier of a number
abbrev pub uid : ℕ → Uid
uid n = record { 0 = n }
