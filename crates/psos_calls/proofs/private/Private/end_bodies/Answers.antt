use Rattle.std.proofs.Common.{◌≡◌, sym, subst, ◌∙◌}
use Rattle.psos_calls.specs.contracts.private.Private.{the_view}
use Rattle.psos_calls.specs.Language.User.{User, ended}
use Rattle.psos_calls.proofs.BodyEnds.{ended_is}
use Rattle.psos_calls.proofs.private.Private.end_bodies.Goals as goal

pub returns-then-is_over : goal.returns-then-is_over
returns-then-is_over c =
    let word = rw (← c.self.view_is) at c.here-word.ensures.at in
    let P : User → Type 0 = λ x. c.put.new.self ≡ ended c.args.script.now x x.frames in
    subst P c.self.view_is (c.put.ensures ∙ ended_is c.args.script.now (the_view c.self.inside) c.leave_ended.new.self c.here-word.result (sym c.is_over.ensures ∙ c.if-is_over.true) word c.leave_ended.ensures.outward c.leave_ended.ensures.goes_on)
