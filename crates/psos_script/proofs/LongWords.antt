-- The longer words that begin lines, by their bytes.
use Rattle.std.proofs.Common.{◌≡◌, ℕ, List, [], ◌∷◌, length, slice_index_or, refl, arith}

-- a list of so many is that of its items

pub five : (w : List ℕ) → length w ≡ 5 → w ≡ slice_index_or w 0 0 ∷ slice_index_or w 1 0 ∷ slice_index_or w 2 0 ∷ slice_index_or w 3 0 ∷ slice_index_or w 4 0 ∷ []
five [] l = absurd (omega (arith, l))
five (a ∷ []) l = absurd (omega (arith, l))
five (a ∷ b ∷ []) l = absurd (omega (arith, l))
five (a ∷ b ∷ c ∷ []) l = absurd (omega (arith, l))
five (a ∷ b ∷ c ∷ d ∷ []) l = absurd (omega (arith, l))
five (a ∷ b ∷ c ∷ d ∷ e ∷ []) l = refl
five (a ∷ b ∷ c ∷ d ∷ e ∷ x ∷ xs) l = absurd (omega (arith, l))

pub six : (w : List ℕ) → length w ≡ 6 → w ≡ slice_index_or w 0 0 ∷ slice_index_or w 1 0 ∷ slice_index_or w 2 0 ∷ slice_index_or w 3 0 ∷ slice_index_or w 4 0 ∷ slice_index_or w 5 0 ∷ []
six [] l = absurd (omega (arith, l))
six (a ∷ []) l = absurd (omega (arith, l))
six (a ∷ b ∷ []) l = absurd (omega (arith, l))
six (a ∷ b ∷ c ∷ []) l = absurd (omega (arith, l))
six (a ∷ b ∷ c ∷ d ∷ []) l = absurd (omega (arith, l))
six (a ∷ b ∷ c ∷ d ∷ e ∷ []) l = absurd (omega (arith, l))
six (a ∷ b ∷ c ∷ d ∷ e ∷ f ∷ []) l = refl
six (a ∷ b ∷ c ∷ d ∷ e ∷ f ∷ x ∷ xs) l = absurd (omega (arith, l))

pub eight : (w : List ℕ) → length w ≡ 8 → w ≡ slice_index_or w 0 0 ∷ slice_index_or w 1 0 ∷ slice_index_or w 2 0 ∷ slice_index_or w 3 0 ∷ slice_index_or w 4 0 ∷ slice_index_or w 5 0 ∷ slice_index_or w 6 0 ∷ slice_index_or w 7 0 ∷ []
eight [] l = absurd (omega (arith, l))
eight (a ∷ []) l = absurd (omega (arith, l))
eight (a ∷ b ∷ []) l = absurd (omega (arith, l))
eight (a ∷ b ∷ c ∷ []) l = absurd (omega (arith, l))
eight (a ∷ b ∷ c ∷ d ∷ []) l = absurd (omega (arith, l))
eight (a ∷ b ∷ c ∷ d ∷ e ∷ []) l = absurd (omega (arith, l))
eight (a ∷ b ∷ c ∷ d ∷ e ∷ f ∷ []) l = absurd (omega (arith, l))
eight (a ∷ b ∷ c ∷ d ∷ e ∷ f ∷ g ∷ []) l = absurd (omega (arith, l))
eight (a ∷ b ∷ c ∷ d ∷ e ∷ f ∷ g ∷ h ∷ []) l = refl
eight (a ∷ b ∷ c ∷ d ∷ e ∷ f ∷ g ∷ h ∷ x ∷ xs) l = absurd (omega (arith, l))
