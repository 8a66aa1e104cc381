-- How a name is spelled.
use Rattle.std.specs.Prelude.{◌≡◌, ℕ, ◌-◌, Bool, ◌&&◌, ◌||◌, ◌==◌, nat_le, List, ◌++◌, length, IsTrue, replicate}
use Rattle.std.specs.List.{list_all, before_first}
use Rattle.psos_text.specs.declared.name.Name.{Name}

-- a lower-case letter, a digit, an underscore or a dash
abbrev pub is_name_byte : ℕ → Bool
is_name_byte b = (nat_le 97 b && nat_le b 122) || (nat_le 48 b && nat_le b 57) || (b == 95) || (b == 45)

-- one to sixteen of them
abbrev pub is_name : List ℕ → Bool
is_name text = nat_le 1 (length text) && nat_le (length text) 16 && list_all is_name_byte text

-- the bytes before the first zero
abbrev pub name_text : Name → List ℕ
name_text n = before_first (λ b. b == 0) n.bytes

-- the value with these bytes
abbrev pub with_bytes : List ℕ → Name
with_bytes bytes = record { bytes = bytes }

-- a text with zeros behind it, n bytes in all
abbrev pub padded : ℕ → List ℕ → List ℕ
padded n text = text ++ replicate (n - length text) 0

-- the name with this text
abbrev pub name_of : List ℕ → Name
name_of text = record { bytes = padded 16 text }

-- a name, and nothing but zeros behind its text
pub record IsName (n : Name) : Type 0 where
  pub named : IsTrue (is_name (name_text n))
  pub filled : n.bytes ≡ padded 16 (name_text n)
