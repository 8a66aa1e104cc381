use Rattle.std.proofs.Common.{length, arith, ◌≡◌, rules, ◌∙◌, List, Option, subst, ap, sym}
use Rattle.std.specs.Prelude.{is_some}
use Rattle.psos_words.specs.declared.word.Word.{Word}
use Rattle.psos_words.specs.Block.{word_from}
use Rattle.psos_words.proofs.Blocks.{IsRead, read-first, read-more, read-none, read-all}
use Rattle.psos_words.proofs.block.read_words.Goals as goal

pub words-preserved : goal.words-preserved
words-preserved c =
    read-more c.words.invariant c.words-test.true c.in-Some.word (sym c.in-Some.is ∙ c.word_from.ensures ∙ ap (word_from _) c.number_at.ensures)

pub returns-in_default-clause-page : goal.returns-in_default-clause-page
returns-in_default-clause-page c =
    let none = read-none c.words.invariant c.words-test.true (sym c.in_default.is ∙ c.word_from.ensures ∙ ap (word_from _) c.number_at.ensures) in
    ap (λ (page : Option (List Word)). is_some page) none

pub returns-clause-words : goal.returns-clause-words
returns-clause-words c _ =
    let all : c.words.i ≡ 64 = omega (arith, c.words-test.false, c.words.auto.i-end) in
    sym (read-all (subst (λ i. IsRead c.args.block.now c.words.words c.words.tags i) all c.words.invariant))

pub returns-clause-page : goal.returns-clause-page
returns-clause-page c =
    let all : c.words.i ≡ 64 = omega (arith, c.words-test.false, c.words.auto.i-end) in
    ap (λ (page : Option (List Word)). is_some page) (read-all (subst (λ i. IsRead c.args.block.now c.words.words c.words.tags i) all c.words.invariant))

pub words-init : goal.words-init
words-init c =
    let long : length c.args.words.now ≡ 64 = search rules in
    subst (λ n. IsRead c.args.block.now c.args.words.now n 0) (sym c.tags_of-tags.ensures) (read-first c.args.block.now c.args.words.now long)
