-- How operands are spelled. States docs/program.md, "Scripts".
use Rattle.std.specs.Prelude.{ℕ, ◌+◌, if◌then◌else◌, nat_lt, List, [], ◌∷◌}

-- the bytes of a word
abbrev pub Text : Type 0
Text = List ℕ

-- r0 to r15, without leading zeros
abbrev pub register_text : ℕ → Text
register_text r = if nat_lt r 10 then 114 ∷ (48 + r) ∷ [] else 114 ∷ 49 ∷ (38 + r) ∷ []

-- a guard: one digit, 0 to 7
abbrev pub guard_text : ℕ → Text
guard_text g = (48 + g) ∷ []
