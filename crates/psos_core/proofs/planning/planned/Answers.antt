use Rattle.std.proofs.Common.{◌≡◌, Some, sym, ◌∙◌}
use Rattle.psos_calls.specs.Language.User.{next_request}
use Rattle.psos_model.proofs.RequestRanges.{in_range}
use Rattle.psos_core.proofs.planning.planned.Goals as goal

pub next-requires-clause-in_range : goal.next-requires-clause-in_range
next-requires-clause-in_range c =
    in_range c.args.script.now c.requires.script c.args.me.now c.in-Some.request (sym c.next_request.ensures ∙ c.in-Some.is)

pub next-requires-clause-trace : goal.next-requires-clause-trace
next-requires-clause-trace c =
    let h = c.requires.trace in
    let asks : next_request c.args.script.now c.args.me.now ≡ Some c.in-Some.request = sym c.next_request.ensures ∙ c.in-Some.is in
    (h.levels, h.traced c.in-Some.request asks, h.lists)
