-- How a number is spelled in decimal digits, and how it is read from them.
use Rattle.std.specs.Prelude.{ℕ, ◌^◌, Bool, ◌&&◌, ◌||◌, ◌==◌, not, if◌then◌else◌, nat_lt, nat_le, List, length, slice_index, Option, Some, None}
use Rattle.std.specs.List.{list_all}
use Rattle.std.specs.Str.Parse.{digits_value}

-- a digit, 0 to 9
abbrev pub is_digit : ℕ → Bool
is_digit b = nat_le 48 b && nat_le b 57

-- one digit or more, and no leading zero but `0` itself
abbrev pub is_numeral : List ℕ → Bool
is_numeral text = nat_le 1 (length text) && list_all is_digit text && (nat_le (length text) 1 || not (slice_index text 0 == 48))

-- the number below 2 ^ 64 that the digits spell
unfoldable pub number_of : List ℕ → Option ℕ
number_of text = if is_numeral text && nat_lt (digits_value 10 text) (2 ^ 64) then Some (digits_value 10 text) else None
