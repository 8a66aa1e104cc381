use Rattle.std.proofs.Common.{sym, subst}
use Rattle.psos_calls.specs.Levels.{Levels}
use Rattle.psos_calls.specs.Levels.Lists.{HasLists}
use Rattle.psos_calls.specs.Plan.Requests.{plan_of}
use Rattle.psos_calls.specs.Plan.Trace.{IsTraceOf}
use Rattle.psos_locks.specs.Users.{OwnView}
use Rattle.psos_locks.proofs.request.asked.Goals as goal

pub next-requires-clause-trace : goal.next-requires-clause-trace
next-requires-clause-trace g c =
    subst (λ (v : OwnView). (l : Levels) × IsTraceOf (plan_of v.own c.args.request.now) l v.trace × HasLists l) (sym c.own.view_is) c.requires.trace
