-- Cutting a text at a byte.
use Rattle.std.specs.Prelude.{ℕ, ◌==◌, if◌then◌else◌, List, [], ◌∷◌, Option, Some, None, option_map}

-- what stands before the first such byte, and what behind it, if there is one
abbrev pub cut_at : ℕ → List ℕ → Option (List ℕ × List ℕ)
cut_at sep [] = None
cut_at sep (b ∷ bs) = if b == sep then Some ([], bs) else option_map (λ p. (b ∷ p.0, p.1)) (cut_at sep bs)
