-- The requests of user objects. States docs/requests.md, "Plans".
use Rattle.psos_calls.specs.declared.request.Request.{Request}
use Rattle.psos_calls.specs.declared.request.Request.TheVariants.{Impl, MkSeg, MkDir, MkType, MkObj, MkCode, Delete}

-- the request is one of these seven
abbrev pub IsOfLife : Request → Type 0
IsOfLife (Impl rd rt ro) = Unit {0}
IsOfLife (MkSeg rd rs name len guard) = Unit {0}
IsOfLife (MkDir rd rs name guard) = Unit {0}
IsOfLife (MkType rd rs name) = Unit {0}
IsOfLife (MkObj rd rt rs name len) = Unit {0}
IsOfLife (MkCode rd rs name label rl) = Unit {0}
IsOfLife (Delete rs name) = Unit {0}
IsOfLife _ = ⊥
