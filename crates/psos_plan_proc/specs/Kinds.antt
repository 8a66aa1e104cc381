-- The requests of processes and procedure records. States docs/requests.md, "Plans".
use Rattle.psos_calls.specs.declared.request.Request.{Request}
use Rattle.psos_calls.specs.declared.request.Request.TheVariants.{Send, Recv, Call}

-- the request is one of these three
abbrev pub IsOfProcesses : Request → Type 0
IsOfProcesses (Send rp rv) = Unit {0}
IsOfProcesses (Recv rd) = Unit {0}
IsOfProcesses (Call rp) = Unit {0}
IsOfProcesses _ = ⊥
