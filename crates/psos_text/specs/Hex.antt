-- How a number is spelled in four hexadecimal digits, and how it is read from them.
use Rattle.std.specs.Prelude.{ℕ, ◌+◌, ◌-◌, ◌*◌, ◌/◌, ◌%◌, ◌&&◌, if◌then◌else◌, nat_lt, nat_le, List, [], ◌∷◌, Option, Some, None}
use Rattle.psos_text.specs.Chain.{◌>>=◌}

-- a hexadecimal digit, 0 to 9 and a to f
abbrev pub hex_digit : ℕ → ℕ
hex_digit d = if nat_lt d 10 then 48 + d else 87 + d

-- four hexadecimal digits, the highest first
abbrev pub hex4 : ℕ → List ℕ
hex4 n = hex_digit (n / 4096 % 16) ∷ hex_digit (n / 256 % 16) ∷ hex_digit (n / 16 % 16) ∷ hex_digit (n % 16) ∷ []

-- the value of a hexadecimal digit
unfoldable pub digit_of : ℕ → Option ℕ
digit_of c = if nat_le 48 c && nat_le c 57 then Some (c - 48) else (if nat_le 97 c && nat_le c 102 then Some (c - 87) else None)

-- the number that four hexadecimal digits spell
unfoldable pub hex_of : List ℕ → Option ℕ
hex_of [] = None
hex_of (a ∷ []) = None
hex_of (a ∷ b ∷ []) = None
hex_of (a ∷ b ∷ c ∷ []) = None
hex_of (a ∷ b ∷ c ∷ d ∷ []) = do
  p ← digit_of a
  q ← digit_of b
  r ← digit_of c
  s ← digit_of d
  Some (((p * 16 + q) * 16 + r) * 16 + s)
hex_of (a ∷ b ∷ c ∷ d ∷ e ∷ more) = None
