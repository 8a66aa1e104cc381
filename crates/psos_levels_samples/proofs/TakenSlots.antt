-- Which slots are taken after the calls that are made.
use Rattle.std.proofs.Common.{ℕ, zero, suc, ◌<◌, List, [], ◌∷◌, Some, None, length, replicate, set, refl, arith}
use Rattle.std.proofs.lemmas.Option.{none-some}
use Rattle.psos_words.specs.declared.word.Word.{Word}
use Rattle.psos_words.specs.Words.{zeros}
use Rattle.psos_calls.specs.Levels.Level7.{Pages, IsTaken, first_free}

-- a slot whose words were changed
pub taken-put : (slots : Pages) (i : ℕ) (words : List Word) → IsTaken slots i → IsTaken (set slots i (Some words)) i
taken-put [] i words t = absurd (none-some t.0 t.1)
taken-put (s ∷ slots) zero words t = (words, refl)
taken-put (s ∷ slots) (suc i) words t = taken-put slots i words t

-- the least free slot, taken
abbrev pub more : Pages → Pages
more slots = set slots (first_free slots) (Some (zeros 512))

-- one slot of two or more leaves one
pub one-left : (n : ℕ) → first_free (more (replicate (suc (suc n)) None)) < length (more (replicate (suc (suc n)) None))
one-left n = omega arith

-- the first and the second slot
pub first-taken : (n : ℕ) → IsTaken (more (more (replicate (suc (suc n)) None))) 0
first-taken n = (zeros 512, refl)

pub second-taken : (n : ℕ) → IsTaken (more (more (replicate (suc (suc n)) None))) 1
second-taken n = (zeros 512, refl)

-- the first slot, freed and taken again
pub taken-again : (slots : Pages) → IsTaken slots 0 → IsTaken (more (set slots 0 None)) 0
taken-again [] t = absurd (none-some t.0 t.1)
taken-again (s ∷ slots) t = (zeros 512, refl)
