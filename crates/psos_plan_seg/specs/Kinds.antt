-- The requests of registers, segments and windows. States docs/requests.md, "Plans".
use Rattle.psos_calls.specs.declared.request.Request.{Request}
use Rattle.psos_calls.specs.declared.request.Request.TheVariants.{Mint, Restrict, Set, Move, Add, Read, Write, Window, Length}

-- the request is one of these nine
abbrev pub IsOfSegments : Request → Type 0
IsOfSegments (Mint rd) = Unit {0}
IsOfSegments (Restrict rd rs keep) = Unit {0}
IsOfSegments (Set rd n) = Unit {0}
IsOfSegments (Move rd rs) = Unit {0}
IsOfSegments (Add rd ra rb) = Unit {0}
IsOfSegments (Read rd rs n) = Unit {0}
IsOfSegments (Write rs n rv) = Unit {0}
IsOfSegments (Window rd rs base len) = Unit {0}
IsOfSegments (Length rd rs) = Unit {0}
IsOfSegments _ = ⊥
