use Rattle.std.proofs.Common.{◌*◌, ◌+◌, Bool, cond, drop, sym, ap, ◌∙◌, arith}
use Rattle.psos_words.specs.Words.{word_at}
use Rattle.psos_dirrep.specs.Scan.{entry_at, scan}
use Rattle.psos_dirrep.proofs.PageSearch.{scan-step}
use Rattle.psos_dirrep.proofs.page.named_slot.Goals as goal

pub returns-then-has_halves-clause-some : goal.returns-then-has_halves-clause-some
returns-then-has_halves-clause-some c =
    let page = c.args.page.now in
    let k = c.slots.k in
    let is = sym c.has_halves.ensures.halves ∙ c.if-has_halves.true in
    (c.slots.invariant.same ∙ scan-step page k c.args.high c.args.low c.has_halves.ensures.all (omega arith)
    ∙ ap (λ (b : Bool). cond b (entry_at k (word_at page (4 * k)) (word_at page (4 * k + 3))) (scan (k + 1) c.args.high c.args.low (drop (4 * (k + 1)) page))) is)

pub slots-preserved : goal.slots-preserved
slots-preserved c =
    let page = c.args.page.now in
    let k = c.slots.k in
    let is = sym c.has_halves.ensures.halves ∙ c.if-has_halves.false in
    record {
      same = c.slots.invariant.same ∙ scan-step page k c.args.high c.args.low c.has_halves.ensures.all (omega arith)
          ∙ ap (λ (b : Bool). cond b (entry_at k (word_at page (4 * k)) (word_at page (4 * k + 3))) (scan (k + 1) c.args.high c.args.low (drop (4 * (k + 1)) page))) is;
      long = λ _. c.has_halves.ensures.all;
    }
