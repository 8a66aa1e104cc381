-- A place in the elements of lists, one list at a time.
use Rattle.std.proofs.Common.{◌≡◌, ℕ, zero, suc, ◌+◌, ◌-◌, ◌<◌, ◌≤◌, List, [], ◌∷◌, ◌++◌, length, drop, map, get_or, slice_get, refl, ap, ◌∙◌, add-one, arith, drop-cons}
use Rattle.std.specs.List.{flat_map}

module _ {X : Type 0} where
  pub get-append_left : (xs ys : List X) (i : ℕ) → i < length xs → slice_get (xs ++ ys) i ≡ slice_get xs i
  get-append_left [] ys i h = absurd (omega arith)
  get-append_left (x ∷ xs) ys zero h = refl
  get-append_left (x ∷ xs) ys (suc i) h = get-append_left xs ys i (omega arith)

  pub get-append_right : (xs ys : List X) (i k : ℕ) → i ≡ length xs + k → slice_get (xs ++ ys) i ≡ slice_get ys k
  get-append_right [] ys i k e = let same : i ≡ k = omega arith in ap (slice_get ys) same
  get-append_right (x ∷ xs) ys zero k e = absurd (omega arith)
  get-append_right (x ∷ xs) ys (suc i) k e = get-append_right xs ys i k (omega arith)

module _ {V X : Type 0} (items : V → List X) where
  -- the elements of these lists from number i on, in order
  abbrev pub from : List V → ℕ → List X
  from vs i = flat_map (λ p. p) (map items (drop i vs))

  from-step : (vs : List V) (i : ℕ) (v : V) → i < length vs → v ≡ get_or vs i v → from vs i ≡ items v ++ from vs (i + 1)
  from-step vs i v h is =
      let first : drop i vs ≡ get_or vs i v ∷ drop (suc i) vs = drop-cons vs i v h in
      rw (first, ← is, add-one) refl

  -- a place within the next list
  pub from-within : (vs : List V) (i k : ℕ) (v : V) → i < length vs → v ≡ get_or vs i v → k < length (items v) → slice_get (from vs i) k ≡ slice_get (items v) k
  from-within vs i k v h is within = ap (λ (xs : List X). slice_get xs k) (from-step vs i v h is) ∙ get-append_left (items v) (from vs (i + 1)) k within

  -- a place past it
  pub from-past : (vs : List V) (i k : ℕ) (v : V) → i < length vs → v ≡ get_or vs i v → length (items v) ≤ k → slice_get (from vs i) k ≡ slice_get (from vs (i + 1)) (k - length (items v))
  from-past vs i k v h is past = ap (λ (xs : List X). slice_get xs k) (from-step vs i v h is) ∙ get-append_right (items v) (from vs (i + 1)) k (k - length (items v)) (omega arith)
