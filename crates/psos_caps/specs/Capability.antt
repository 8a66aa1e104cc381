-- Capabilities. States docs/system.md, "Capabilities".
use Rattle.std.specs.Prelude.{ℕ, ◌+◌, ◌*◌, ◌^◌}
use Rattle.std.specs.Int.RustNames.{bit_and}
use Rattle.psos_caps.specs.declared.cap.Cap.{Cap}

-- a unique identifier, and a set of rights as a number below 2 ^ 16, bit 0 the lowest
abbrev pub Capability : Type 0
Capability = Cap

-- every right on an identifier
abbrev pub full : ℕ → Capability
full uid = record { uid = uid; rights = 65535 }

-- the same identifier, with the rights that are kept too
abbrev pub restricted : Capability → ℕ → Capability
restricted cap keep = record { uid = cap.uid; rights = bit_and cap.rights keep }

-- the number that stands for a capability: the identifier in the low 64 bits, the rights above them
abbrev pub payload_of : Capability → ℕ
payload_of cap = cap.uid + 2 ^ 64 * cap.rights
