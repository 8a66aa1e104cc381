-- The requests of directories and name spaces. States docs/requests.md, "Plans".
use Rattle.psos_calls.specs.declared.request.Request.{Request}
use Rattle.psos_calls.specs.declared.request.Request.TheVariants.{Lookup, Bind, Unbind, List, Path, Find}

-- the request is one of these six
abbrev pub IsOfDirectories : Request → Type 0
IsOfDirectories (Lookup rd rs name) = Unit {0}
IsOfDirectories (Bind rs name rv) = Unit {0}
IsOfDirectories (Unbind rs name) = Unit {0}
IsOfDirectories (List rs) = Unit {0}
IsOfDirectories (Path rs) = Unit {0}
IsOfDirectories (Find rd name) = Unit {0}
IsOfDirectories _ = ⊥
