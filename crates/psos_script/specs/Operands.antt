-- What operands' words are read as.
use Rattle.std.specs.Prelude.{ℕ, ◌-◌, Bool, ◌&&◌, ◌==◌, if◌then◌else◌, nat_le, List, [], ◌∷◌, Option, Some, None, is_some}
use Rattle.psos_text.specs.Name.{is_name}
use Rattle.psos_text.specs.Number.{number_of}
use Rattle.psos_text.specs.Hex.{hex_of}
use Rattle.psos_model.specs.Text.Operands.{Text}
use Rattle.psos_script.specs.declared.class.Class.{Class}
use Rattle.psos_script.specs.declared.class.Class.TheVariants.{Register, Number, Hex, Name, Label, Guard}

-- a register: r0 to r15
unfoldable pub register_of : Text → Option ℕ
register_of [] = None
register_of (r ∷ []) = None
register_of (r ∷ d ∷ []) = if (r == 114) && nat_le 48 d && nat_le d 57 then Some (d - 48) else None
register_of (r ∷ t ∷ d ∷ []) = if (r == 114) && (t == 49) && nat_le 48 d && nat_le d 53 then Some (d - 38) else None
register_of (r ∷ t ∷ d ∷ e ∷ more) = None

-- a guard: one digit, 0 to 7
unfoldable pub guard_of : Text → Option ℕ
guard_of [] = None
guard_of (d ∷ []) = if nat_le 48 d && nat_le d 55 then Some (d - 48) else None
guard_of (d ∷ e ∷ more) = None

-- the word is an operand of the class
unfoldable pub is_operand : Class → Text → Bool
is_operand Register w = is_some (register_of w)
is_operand Number w = is_some (number_of w)
is_operand Hex w = is_some (hex_of w)
is_operand Name w = is_name w
is_operand Label w = is_name w
is_operand Guard w = is_some (guard_of w)

-- the first word, and the words after it
abbrev pub first_word : List Text → Option (Text × List Text)
first_word [] = None
first_word (w ∷ ws) = Some (w, ws)
