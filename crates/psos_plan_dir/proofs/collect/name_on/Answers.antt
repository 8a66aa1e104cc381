use Rattle.std.proofs.Common.{◌+◌, ◌*◌, sym, ap, subst, ◌∙◌}
use Rattle.std.proofs.lemmas.Option.{get_or_from_slice_get}
use Rattle.psos_words.specs.declared.word.Word.{Word}
use Rattle.psos_words.specs.declared.word.Word.TheVariants.{Data}
use Rattle.psos_words.specs.Words.{word_at}
use Rattle.psos_plan_dir.specs.Collected.{name_in, read_name, IsNamed}
use Rattle.psos_plan_dir.proofs.NameLists.{at-place, name-read, is-named}
use Rattle.psos_plan_dir.proofs.collect.name_on.Goals as goal

pub read_name-requires : goal.read_name-requires
read_name-requires c =
    let page = c.args.page.now in
    let k = c.args.k in
    let p = at-place page k c.requires.slots c.get-high.ensures.all c.requires.within in
    let high = get_or_from_slice_get page (4 * k + 1) c.get-high.result (Data 0) c.get-high.ensures.word in
    let low = get_or_from_slice_get page (4 * k + 2) c.get-low.result (Data 0) c.get-low.ensures.word in
    let last = get_or_from_slice_get page (4 * k + 3) c.get-last.result (Data 0) c.get-last.ensures.word in
    let named = is-named (word_at page (4 * k)) (word_at page (4 * k + 1)) (word_at page (4 * k + 2)) (word_at page (4 * k + 3)) p.slot p.here in
    subst (λ (w : Word). IsNamed c.get-high.result c.get-low.result w) last
    (subst (λ (w : Word). IsNamed c.get-high.result w (word_at page (4 * k + 3))) low (subst (λ (w : Word). IsNamed w (word_at page (4 * k + 2)) (word_at page (4 * k + 3))) high named))

pub returns : goal.returns
returns c =
    let page = c.args.page.now in
    let k = c.args.k in
    let p = at-place page k c.requires.slots c.get-high.ensures.all c.requires.within in
    let high = get_or_from_slice_get page (4 * k + 1) c.get-high.result (Data 0) c.get-high.ensures.word in
    let low = get_or_from_slice_get page (4 * k + 2) c.get-low.result (Data 0) c.get-low.ensures.word in
    let last = get_or_from_slice_get page (4 * k + 3) c.get-last.result (Data 0) c.get-last.ensures.word in
    c.read_name.ensures
    ∙ sym (ap (λ (w : Word). read_name w (word_at page (4 * k + 2)) (word_at page (4 * k + 3))) high ∙ ap (λ (w : Word). read_name c.get-high.result w (word_at page (4 * k + 3))) low ∙ ap (λ (w : Word). read_name c.get-high.result c.get-low.result w) last)
    ∙ name-read (word_at page (4 * k)) (word_at page (4 * k + 1)) (word_at page (4 * k + 2)) (word_at page (4 * k + 3)) p.slot p.here ∙ ap name_in (sym p.get)
