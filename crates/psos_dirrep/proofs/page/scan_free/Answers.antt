use Rattle.std.proofs.Common.{◌*◌, ◌+◌, Bool, cond, drop, Some, sym, ap, ◌∙◌, arith}
use Rattle.psos_dirrep.specs.Scan.{scan_free}
use Rattle.psos_dirrep.proofs.PageSearch.{free-step}
use Rattle.psos_dirrep.proofs.page.scan_free.Goals as goal

pub returns-then-holds_none-clause-place : goal.returns-then-holds_none-clause-place
returns-then-holds_none-clause-place c =
    let page = c.args.page.now in
    let k = c.slots.k in
    let is = sym c.holds_none.ensures.none ∙ c.if-holds_none.true in
    sym (c.slots.invariant.same ∙ free-step page k c.holds_none.ensures.all (omega arith) ∙ ap (λ (b : Bool). cond b (Some k) (scan_free (k + 1) (drop (4 * (k + 1)) page))) is)

pub slots-preserved : goal.slots-preserved
slots-preserved c =
    let page = c.args.page.now in
    let k = c.slots.k in
    let is = sym c.holds_none.ensures.none ∙ c.if-holds_none.false in
    record {
      same = c.slots.invariant.same ∙ free-step page k c.holds_none.ensures.all (omega arith) ∙ ap (λ (b : Bool). cond b (Some k) (scan_free (k + 1) (drop (4 * (k + 1)) page))) is;
      long = λ _. c.holds_none.ensures.all;
    }
