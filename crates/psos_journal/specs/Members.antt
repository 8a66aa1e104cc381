-- The entries that name a member. It states docs/levels.md, "Journal".
use Rattle.std.specs.Prelude.{ℕ, ◌==◌, cond, List, [], ◌∷◌, map}
use Rattle.std.specs.Int.{bit_at}

-- all entries, without their names
abbrev pub entries_of : {A : Type 0} → List (A × ℕ) → List A
entries_of xs = map (λ x. x.0) xs

-- the entries that name member i, in order: bit i of an entry's names names it
abbrev pub named : {A : Type 0} → ℕ → List (A × ℕ) → List A
named i [] = []
named i (x ∷ xs) = cond (bit_at x.1 i == 1) (x.0 ∷ named i xs) (named i xs)
