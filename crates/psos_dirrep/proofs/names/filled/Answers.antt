use Rattle.std.proofs.Common.{◌≡◌, sym, ap, ◌∙◌}
use Rattle.psos_text.specs.Name.{name_of, name_text}
use Rattle.psos_words.specs.Directory.{name_from, name_high, name_low}
use Rattle.psos_dirrep.proofs.NameBytes.{filled-some, filled-none, filled-halves, filled-named, read-err, read-ok}
use Rattle.psos_dirrep.proofs.names.filled.Goals as goal

pub returns-in_default : goal.returns-in_default
returns-in_default c =
    let n = name_from c.args.high c.args.low in
    filled-none c.args.high c.args.low (λ filled. read-err (name_text n) c.in_default.field-0 (sym c.read.ensures.value ∙ c.in_default.is) (filled-named n filled))

pub returns-then-first-high : goal.returns-then-first-high
returns-then-first-high c =
    let text = name_text (name_from c.args.high c.args.low) in
    let name : c.in-Ok.name ≡ name_of text = read-ok text c.in-Ok.name (sym c.read.ensures.value ∙ c.in-Ok.is) in
    filled-none c.args.high c.args.low (λ filled. c.if-first-high.true (c.halves-first.ensures.high ∙ ap name_high name ∙ (filled-halves c.args.high c.args.low c.ranges.high.fits c.ranges.low.fits filled).0))

pub returns-then-second-low : goal.returns-then-second-low
returns-then-second-low c =
    let text = name_text (name_from c.args.high c.args.low) in
    let name : c.in-Ok.name ≡ name_of text = read-ok text c.in-Ok.name (sym c.read.ensures.value ∙ c.in-Ok.is) in
    filled-none c.args.high c.args.low (λ filled. c.if-second-low.true (c.halves-first.ensures.low ∙ ap name_low name ∙ (filled-halves c.args.high c.args.low c.ranges.high.fits c.ranges.low.fits filled).1))

pub returns : goal.returns
returns c = filled-some c.in-Ok.name c.args.high c.args.low c.in-Ok.ensures.name (sym c.halves-first.ensures.high ∙ c.if-first-high.false) (sym c.halves-first.ensures.low ∙ c.if-second-low.false)
