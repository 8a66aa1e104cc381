use Rattle.std.proofs.Common.{length, arith, ◌≡◌, ◌+◌, ◌-◌, ◌*◌, rules, ◌∙◌, refl, subst}
use Rattle.psos_words.proofs.Blocks.{IsWritten, written-more, written-all, page-again}
use Rattle.psos_words.proofs.block.write_words.Goals as goal

pub words-preserved : goal.words-preserved
words-preserved c =
    let wide : length c.words.out ≡ 1032 = search rules in
    let long : length c.args.words.now ≡ 64 = search rules in
    let sixteen : 16 * c.words.i + 16 - 16 * c.words.i ≡ 16 = omega arith in
    written-more c.words.invariant c.words-test.true long wide _ refl c.bytes_of.ensures.range c.copy_from_slice.new.self (c.copy_from_slice.ensures.after ∙ c.bytes_of.ensures.bytes) c.tag_at-tags.result c.tag_at-tags.ensures _ sixteen

pub returns-clause-block : goal.returns-clause-block
returns-clause-block c =
    let wide : length c.words.out ≡ 1032 = search rules in
    let long : length c.args.words.now ≡ 64 = search rules in
    let all : c.words.i ≡ 64 = omega (arith, c.words-test.false, c.words.auto.i-end) in
    written-all (subst (λ i. IsWritten c.args.words.now c.words.out c.words.tags i) all c.words.invariant) long wide c.copy_from_slice-2.new.self (c.copy_from_slice-2.ensures.after ∙ c.to_le_bytes.ensures)

pub returns-clause-again : goal.returns-clause-again
returns-clause-again c =
    let all : c.words.i ≡ 64 = omega (arith, c.words-test.false, c.words.auto.i-end) in
    let long : length c.args.words.now ≡ 64 = search rules in
    let h = subst (λ i. IsWritten c.args.words.now c.words.out c.words.tags i) all c.words.invariant in
    page-again (returns-clause-block c) long h.range
