use Rattle.std.proofs.Common.{◌≡◌, ◌≤◌, true, length, sym, ap, ◌∙◌, subst}
use Rattle.psos_limits.specs.declared.TheConstants.{MOST_REQUESTS}
use Rattle.psos_calls.specs.Language.Script.{Script}
use Rattle.psos_calls.specs.Language.User.{next_request}
use Rattle.psos_journal.specs.Views.{list_of}
use Rattle.psos_locks.specs.Users.{OwnView, has_more}
use Rattle.psos_locks.proofs.Closing.{asks_now}
use Rattle.psos_locks.proofs.Served.{few_entries}
use Rattle.psos_locks.proofs.own.Own.next_request.Goals as goal

pub unreachable-requires : goal.unreachable-requires
unreachable-requires g c =
    let s = g.T.Run.script in
    let o : OwnView = record { own = c.self.inside.private; side = c.self.inside.member; phase = c.self.inside.phase; receipts = c.self.inside.receipts.items; trace = c.self.inside.trace } in
    let more : has_more s o ≡ true = ap (has_more s) c.self.view_is ∙ c.requires.more in
    let none = ap (λ (q : Script). next_request q c.self.inside.private) (sym c.requires.script) ∙ (sym c.next_request.ensures ∙ c.in-None.is) in
    asks_now s c.requires.well_formed o c.self.invariant more none

pub returns-clause-few : goal.returns-clause-few
returns-clause-few g c =
    let s = g.T.Run.script in
    let o : OwnView = record { own = c.self.inside.private; side = c.self.inside.member; phase = c.self.inside.phase; receipts = c.self.inside.receipts.items; trace = c.self.inside.trace } in
    subst (λ (v : OwnView). length (list_of v.side) ≤ MOST_REQUESTS) c.self.view_is (few_entries s c.requires.well_formed o c.self.invariant)
