-- The capabilities among words, one word more at a time.
use Rattle.std.proofs.Common.{◌≡◌, ℕ, zero, suc, ◌+◌, ◌<◌, ◌≤◌, List, [], ◌∷◌, ◌++◌, length, get_or, slice_get, Some, refl, sym, ap, ◌∙◌, arith, length-append}
use Rattle.psos_caps.specs.Capability.{Capability}
use Rattle.psos_words.specs.declared.word.Word.{Word}
use Rattle.psos_words.specs.declared.word.Word.TheVariants.{Data, Cap}
use Rattle.psos_calls.specs.Language.Capabilities.{capabilities}

pub capabilities-append : (words : List Word) (cap : Capability) → capabilities (words ++ Cap cap ∷ []) ≡ capabilities words ++ cap ∷ []
capabilities-append [] cap = refl
capabilities-append (Data n ∷ rest) cap = capabilities-append rest cap
capabilities-append (Cap c ∷ rest) cap = ap (λ (caps : List Capability). c ∷ caps) (capabilities-append rest cap)

-- all words stay capabilities
pub all_stay : (words : List Word) (cap : Capability) → length (capabilities words) ≡ length words → length (capabilities (words ++ Cap cap ∷ [])) ≡ length (words ++ Cap cap ∷ [])
all_stay words cap all =
    ap length (capabilities-append words cap) ∙ length-append (capabilities words) (cap ∷ []) ∙ ap (λ (n : ℕ). n + 1) all ∙ sym (length-append words (Cap cap ∷ []))

-- there are no more capabilities than words
few : (words : List Word) → length (capabilities words) ≤ length words
few [] = omega arith
few (Data n ∷ rest) = omega (arith, few rest)
few (Cap cap ∷ rest) = omega (arith, few rest)

-- where all words are capabilities, the word at a place is the capability at that place
pub capabilities-get : (words : List Word) (i : ℕ) (cap : Capability) → length (capabilities words) ≡ length words → i < length words → get_or words i (Data 0) ≡ Cap cap → slice_get (capabilities words) i ≡ Some cap
capabilities-get [] i cap all within is = absurd (omega arith)
capabilities-get (Data n ∷ rest) i cap all within is = absurd (omega (arith, few rest))
capabilities-get (Cap first ∷ rest) zero cap all within is = cc
capabilities-get (Cap first ∷ rest) (suc i) cap all within is = capabilities-get rest i cap (omega arith) (omega arith) is

-- and it is never data
pub capabilities-no_data : (words : List Word) (i n : ℕ) → length (capabilities words) ≡ length words → i < length words → get_or words i (Data 0) ≡ Data n → ⊥
capabilities-no_data [] i n all within is = absurd (omega arith)
capabilities-no_data (Data m ∷ rest) i n all within is = absurd (omega (arith, few rest))
capabilities-no_data (Cap first ∷ rest) zero n all within is = cc
capabilities-no_data (Cap first ∷ rest) (suc i) n all within is = capabilities-no_data rest i n (omega arith) (omega arith) is
