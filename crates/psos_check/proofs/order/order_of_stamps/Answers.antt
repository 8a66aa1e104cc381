use Rattle.std.proofs.Common.{rules, refl, sym, ◌∙◌}
use Rattle.std.proofs.lemmas.Result.{IfOk-weaker}
use Rattle.std.proofs.lemmas.Option.{IfSome_then}
use Rattle.psos_check.proofs.Places.{one_put, twice, all_put, gap, IfNone_then}
use Rattle.psos_check.proofs.order.order_of_stamps.Goals as goal

pub returns-then-not-put-clause-none : goal.returns-then-not-put-clause-none
returns-then-not-put-clause-none c = twice c.args.lines.now c.lines.line-index _ c.lines.places.items _ refl refl c.lines-test.true (sym c.if-not-put.true ∙ c.put.ensures.free) c.lines.invariant

pub lines-preserved : goal.lines-preserved
lines-preserved c = one_put c.args.lines.now c.lines.line-index _ c.lines.places.items c.put.new.places.items _ refl c.lines-test.true (sym c.if-not-put.false ∙ c.put.ensures.free) (search rules) c.lines.invariant

pub returns-clause-some : goal.returns-clause-some
returns-clause-some c = IfOk-weaker c.users.result _ _ (λ o h. IfSome_then o h (λ v e. all_put c.args.lines.now c.lines.line-index c.lines.places.items v.items c.lines-test.false c.lines.invariant (sym c.deref.ensures.value ∙ e))) c.users.ensures.some

pub returns-clause-none : goal.returns-clause-none
returns-clause-none c = IfOk-weaker c.users.result _ _ (λ o h. IfNone_then o h (λ g. gap c.args.lines.now c.lines.line-index c.deref.result.now c.lines-test.false (search (rules, c.lines.invariant)) g)) c.users.ensures.none
