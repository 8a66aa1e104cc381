-- Which bit stands for a right. States docs/system.md, "Rights".
use Rattle.std.specs.Prelude.{ℕ, Bool}
use Rattle.psos_caps.specs.Capability.{Capability}
use Rattle.psos_words.specs.Guard.{has_bit}
use Rattle.psos_calls.specs.declared.right.Right.{Right}
use Rattle.psos_calls.specs.declared.right.Right.TheVariants.{Read, Write, Window, Lookup, Bind, Unbind, List, Create, Delete, Make, Impl, Enter, Send}

-- the bit of a right among those of its kind of object
abbrev pub bit_of : Right → ℕ
bit_of Read = 3
bit_of Write = 4
bit_of Window = 5
bit_of Lookup = 3
bit_of Bind = 4
bit_of Unbind = 5
bit_of List = 6
bit_of Create = 7
bit_of Delete = 8
bit_of Make = 3
bit_of Impl = 4
bit_of Enter = 3
bit_of Send = 3

-- the capability has the right
abbrev pub has : Capability → Right → Bool
has cap right = has_bit cap.rights (bit_of right)
