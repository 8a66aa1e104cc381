-- Where the least free slot lies, and where it lies after a change.
use Rattle.std.proofs.Common.{◌≡◌, ℕ, zero, suc, ◌+◌, ◌<◌, ◌≤◌, Bool, true, false, List, [], ◌∷◌, length, get_or, set, arith}
use Rattle.psos_limits.specs.declared.TheConstants.{SLOTS}
use Rattle.psos_store.specs.Slots.{least_free}

-- it is one of the slots, or their number
pub least_free-length : (s : List Bool) → least_free s ≤ length s
least_free-length [] = omega arith
least_free-length (false ∷ rest) = omega arith
least_free-length (true ∷ rest) = omega (arith, least_free-length rest)

-- a slot that is not taken lies at it or behind it
pub least_free-free : (s : List Bool) (i : ℕ) → i < length s → get_or s i false ≡ false → least_free s ≤ i
least_free-free [] i h e = omega (arith, h)
least_free-free (false ∷ rest) i h e = omega arith
least_free-free (true ∷ rest) zero h e = grind (arith, e)
least_free-free (true ∷ rest) (suc i) h e = omega (arith, least_free-free rest i (omega (arith, h)) e)

-- where a slot at it or before it is taken, it lies behind that slot
pub least_free-taken : (s : List Bool) (i : ℕ) → i ≤ least_free s → get_or s i false ≡ true → i + 1 ≤ least_free s
least_free-taken [] i h e = grind (arith, e)
least_free-taken (false ∷ rest) zero h e = grind (arith, e)
least_free-taken (false ∷ rest) (suc i) h e = omega (arith, h)
least_free-taken (true ∷ rest) zero h e = omega arith
least_free-taken (true ∷ rest) (suc i) h e = omega (arith, least_free-taken rest i (omega (arith, h)) e)

-- to take a slot leaves it there or moves it on
pub least_free-take : (s : List Bool) (i : ℕ) → least_free s ≤ least_free (set s i true)
least_free-take [] i = omega arith
least_free-take (false ∷ rest) i = omega arith
least_free-take (true ∷ rest) zero = omega arith
least_free-take (true ∷ rest) (suc i) = omega (arith, least_free-take rest i)

-- to free a slot leaves it there or moves it to that slot
pub least_free-give : (s : List Bool) (i n : ℕ) → n ≤ least_free s → n ≤ i → n ≤ least_free (set s i false)
least_free-give [] i n h b = h
least_free-give (false ∷ rest) i n h b = omega (arith, h)
least_free-give (true ∷ rest) zero n h b = omega (arith, b)
least_free-give (true ∷ rest) (suc i) zero h b = omega arith
least_free-give (true ∷ rest) (suc i) (suc n) h b = omega (arith, least_free-give rest i n (omega (arith, h)) (omega (arith, b)))

-- of 521 slots it is at most 521
pub few_free : (s : List Bool) → length s ≡ SLOTS → least_free s ≤ SLOTS
few_free s e = omega (arith, least_free-length s, e)
