-- Requests with their operands in range. States docs/requests.md, "Operands".
use Rattle.std.specs.Prelude.{ℕ, ◌<◌, ◌^◌}
use Rattle.psos_text.specs.Name.{IsName}
use Rattle.psos_calls.specs.declared.request.Request.{Request}
use Rattle.psos_calls.specs.declared.request.Request.TheVariants.{Mint, Restrict, Set, Move, Add, Read, Write, Window, Length, Lookup, Bind, Unbind, List, Impl, MkSeg, MkDir, MkType, MkObj, MkCode, Delete, Send, Recv, Call, Path, Find}

-- registers are r0 to r15, rights sixteen bits, numbers below 2 ^ 64, guards 0 to 7, and a label is one of so many blocks
abbrev pub InRange : ℕ → Request → Type 0
InRange blocks (Mint rd) = rd < 16
InRange blocks (Restrict rd rs keep) = (rd < 16) × (rs < 16) × (keep.0 < 2 ^ 16)
InRange blocks (Set rd n) = (rd < 16) × (n < 2 ^ 64)
InRange blocks (Move rd rs) = (rd < 16) × (rs < 16)
InRange blocks (Add rd ra rb) = (rd < 16) × (ra < 16) × (rb < 16)
InRange blocks (Read rd rs n) = (rd < 16) × (rs < 16) × (n < 2 ^ 64)
InRange blocks (Write rs n rv) = (rs < 16) × (n < 2 ^ 64) × (rv < 16)
InRange blocks (Window rd rs base len) = (rd < 16) × (rs < 16) × (base < 2 ^ 64) × (len < 2 ^ 64)
InRange blocks (Length rd rs) = (rd < 16) × (rs < 16)
InRange blocks (Lookup rd rs name) = (rd < 16) × (rs < 16) × IsName name
InRange blocks (Bind rs name rv) = (rs < 16) × IsName name × (rv < 16)
InRange blocks (Unbind rs name) = (rs < 16) × IsName name
InRange blocks (List rs) = rs < 16
InRange blocks (Impl rd rt ro) = (rd < 16) × (rt < 16) × (ro < 16)
InRange blocks (MkSeg rd rs name len guard) = (rd < 16) × (rs < 16) × IsName name × (len < 2 ^ 64) × (guard < 8)
InRange blocks (MkDir rd rs name guard) = (rd < 16) × (rs < 16) × IsName name × (guard < 8)
InRange blocks (MkType rd rs name) = (rd < 16) × (rs < 16) × IsName name
InRange blocks (MkObj rd rt rs name len) = (rd < 16) × (rt < 16) × (rs < 16) × IsName name × (len < 2 ^ 64)
InRange blocks (MkCode rd rs name label rl) = (rd < 16) × (rs < 16) × IsName name × (label < blocks) × (rl < 16)
InRange blocks (Delete rs name) = (rs < 16) × IsName name
InRange blocks (Send rp rv) = (rp < 16) × (rv < 16)
InRange blocks (Recv rd) = rd < 16
InRange blocks (Call rp) = rp < 16
InRange blocks (Path rs) = rs < 16
InRange blocks (Find rd name) = (rd < 16) × IsName name
