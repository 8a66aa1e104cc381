-- Lists by their places, and with one more at the end.
use Rattle.std.proofs.Common.{◌≡◌, ℕ, zero, suc, ◌<◌, false, List, [], ◌∷◌, ◌++◌, length, map, Option, Some, None, refl, sym, ap, ◌∙◌, subst, inl, inr, arith}
use Rattle.std.specs.Prelude.{slice_get, is_some, option_map, ◌⊎◌}
use Rattle.std.proofs.lemmas.Bool.{true≢false}
use Rattle.std.specs.Option.{option_to_list}
use Rattle.std.proofs.lemmas.Option.{slice_get_within, slice_get-map, none-some, same_Some}
use Rattle.psos_calls.proofs.PhasePlaces.{get-append_left, get-append_right}

pub front_get : {X : Type 0} (xs : List X) (y : X) (i : ℕ) (x : X) → slice_get xs i ≡ Some x → slice_get (xs ++ y ∷ []) i ≡ Some x
front_get xs y i x e = get-append_left xs (y ∷ []) i (slice_get_within xs i x e) ∙ e

pub last_get : {X : Type 0} (xs : List X) (y : X) → slice_get (xs ++ y ∷ []) (length xs) ≡ Some y
last_get xs y = get-append_right xs (y ∷ []) (length xs) 0 (omega arith)

pub cases_get : {X : Type 0} (xs : List X) (y : X) (i : ℕ) (x : X) → slice_get (xs ++ y ∷ []) i ≡ Some x → (slice_get xs i ≡ Some x) ⊎ ((i ≡ length xs) × (y ≡ x))
cases_get [] y zero x e = inr (refl, same_Some y x e)
cases_get [] y (suc i) x e = absurd (none-some x e)
cases_get (w ∷ xs) y zero x e = inl e
cases_get (w ∷ xs) y (suc i) x e = elim (cases_get xs y i x e) [ inl a ↦ inl a | inr b ↦ inr (omega (arith, b.0), b.1) ]

pub not_some : {X : Type 0} (o : Option X) → is_some o ≡ false → o ≡ None
not_some None e = refl
not_some (Some x) e = absurd (true≢false e)

-- what a list leaves when its last was taken
pub popped : {X : Type 0} (xs front : List X) (o : Option X) (y : X) → xs ≡ front ++ option_to_list o → o ≡ Some y → xs ≡ front ++ y ∷ []
popped xs front o y e is = e ∙ ap (λ r. front ++ option_to_list r) is

pub popped_none : {X : Type 0} (xs front : List X) (o : Option X) → xs ≡ front ++ option_to_list o → o ≡ None → length front ≡ 0 → xs ≡ []
popped_none xs [] o e is none = e ∙ ap (λ r. option_to_list r) is
popped_none xs (x ∷ front) o e is none = absurd (omega (arith, none))

module _ {X : Type 0} (P : ℕ → X → Type 0) (xs front : List X) (y : X) (whole : xs ≡ front ++ y ∷ []) where
  -- what holds of all holds of those before the last, and of the last
  pub each_front : ((i : ℕ) (x : X) → slice_get xs i ≡ Some x → P i x) → (i : ℕ) (x : X) → slice_get front i ≡ Some x → P i x
  each_front h i x at = h i x (ap (λ (l : List X). slice_get l i) whole ∙ front_get front y i x at)

  pub each_last : ((i : ℕ) (x : X) → slice_get xs i ≡ Some x → P i x) → P (length front) y
  each_last h = h (length front) y (ap (λ (l : List X). slice_get l (length front)) whole ∙ last_get front y)

  -- and the other way about
  pub each_more : ((i : ℕ) (x : X) → slice_get front i ≡ Some x → P i x) → P (length front) y → (i : ℕ) (x : X) → slice_get xs i ≡ Some x → P i x
  each_more h last i x at = elim (cases_get front y i x (ap (λ (l : List X). slice_get l i) (sym whole) ∙ at)) [
    | inl before ↦ h i x before
    | inr here ↦ subst (P i) here.1 (subst (λ (k : ℕ). P k y) (sym here.0) last)
  ]

-- two lists with the same at each place
pub same_places : {X : Type 0} (xs ys : List X) → ((i : ℕ) (x : X) → slice_get xs i ≡ Some x → slice_get ys i ≡ Some x) → ((i : ℕ) (y : X) → slice_get ys i ≡ Some y → slice_get xs i ≡ Some y) → xs ≡ ys
same_places [] [] h g = refl
same_places [] (y ∷ ys) h g = absurd (none-some y (g 0 y refl))
same_places (x ∷ xs) [] h g = absurd (none-some x (h 0 x refl))
same_places {X = X} (x ∷ xs) (y ∷ ys) h g =
    let first : y ≡ x = same_Some y x (h 0 x refl) in
    ap (λ (w : X). w ∷ xs) (sym first) ∙ ap (λ (l : List X). y ∷ l) (same_places xs ys (λ i z at. h (suc i) z at) (λ i z at. g (suc i) z at))

pub there_is : {X : Type 0} (xs : List X) (i : ℕ) → i < length xs → (x : X) × (slice_get xs i ≡ Some x)
there_is [] i h = absurd (omega (arith, h))
there_is (x ∷ xs) zero h = (x, refl)
there_is (x ∷ xs) (suc i) h = there_is xs i (omega (arith, h))

-- ---- each of a list by a function

pub mapped_is : {X Y : Type 0} (f : X → Y) (xs : List X) (i : ℕ) (z : Y) → slice_get (map f xs) i ≡ Some z → (x : X) × (slice_get xs i ≡ Some x) × (f x ≡ z)
mapped_is f [] i z e = absurd (none-some z e)
mapped_is f (x ∷ xs) zero z e = (x, refl, same_Some (f x) z e)
mapped_is f (x ∷ xs) (suc i) z e = mapped_is f xs i z e

pub mapped_there : {X Y : Type 0} (f : X → Y) (xs : List X) (i : ℕ) (x : X) → slice_get xs i ≡ Some x → slice_get (map f xs) i ≡ Some (f x)
mapped_there f xs i x e = slice_get-map f xs i ∙ ap (option_map f) e
