use Rattle.std.proofs.Common.{sym, ap, ◌∙◌}
use Rattle.psos_text.specs.Number.{is_numeral, number_of}
use Rattle.psos_text.proofs.NumberLaws.{not_numeral, numeral_is_text, parsed}
use Rattle.psos_text.proofs.number.value.Goals as goal

pub returns-then-not-is_numeral : goal.returns-then-not-is_numeral
returns-then-not-is_numeral c = not_numeral c.args.b.now (sym c.is_numeral.ensures ∙ c.if-not-is_numeral.true)

pub returns-in_default : goal.returns-in_default
returns-in_default c = absurd (c.in_default.ensures.cases.0 (numeral_is_text c.args.b.now (sym c.is_numeral.ensures ∙ c.if-not-is_numeral.false)))

pub returns : goal.returns
returns c =
    let same = c.in-Ok.ensures.cases.0 in
    c.ok.ensures.value ∙ parsed c.in-Ok.text.now c.parse.result (ap is_numeral same ∙ sym c.is_numeral.ensures ∙ c.if-not-is_numeral.false) c.parse.ensures.value.0 ∙ ap number_of same
