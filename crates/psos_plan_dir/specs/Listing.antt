-- Where want of memory may be answered. States docs/requests.md, "Plans".
use Rattle.psos_calls.specs.declared.reply.Reply.TheVariants.{Names}
use Rattle.psos_calls.specs.declared.request.Request.{Request}
use Rattle.psos_calls.specs.declared.request.Request.TheVariants.{List}
use Rattle.psos_calls.specs.Plan.{Plan, Close}

-- all that is left of the plan is to tell names
abbrev pub TellsNames : Plan → Type 0
TellsNames (Close (Names names) effect) = Unit {0}
TellsNames _ = ⊥

-- the request is `list`, and all that is left of its plan is to tell the names
abbrev pub IsListing : Request → Plan → Type 0
IsListing (List rs) plan = TellsNames plan
IsListing _ plan = ⊥
