-- What a store may be made with. States docs/requests.md, "Answers".
use Rattle.std.specs.Prelude.{ℕ, ◌&&◌, nat_lt, nat_le, Bool}
use Rattle.std.specs.Int.RustNames.{bit_or}
use Rattle.psos_limits.specs.declared.TheConstants.{MOST_WORDS}
use Rattle.psos_caps.specs.declared.rights.Rights.{Rights}

-- the guard of a store that is asked for: bit 0 is always in it
abbrev pub guard_of : ℕ → Rights
guard_of g = record { 0 = bit_or g 1 }

-- a length of a segment
abbrev pub is_length : ℕ → Bool
is_length len = nat_lt 0 len && nat_le len MOST_WORDS
