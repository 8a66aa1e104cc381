use Rattle.std.proofs.Common.{◌+◌, ◌*◌, sym, ap, ◌∙◌}
use Rattle.std.specs.Prelude.{is_some}
use Rattle.std.proofs.lemmas.Option.{get_or_from_slice_get}
use Rattle.psos_words.specs.declared.word.Word.TheVariants.{Data}
use Rattle.psos_words.specs.Words.{word_at}
use Rattle.psos_words.specs.Directory.{Slot}
use Rattle.psos_plan_dir.specs.Collected.{name_in}
use Rattle.psos_plan_dir.proofs.NameLists.{at-place, is_cap, cap-used}
use Rattle.psos_plan_dir.proofs.collect.is_used.Goals as goal

pub returns-in-Cap : goal.returns-in-Cap
returns-in-Cap c =
    let page = c.args.page.now in
    let k = c.args.k in
    let p = at-place page k c.requires.slots c.get.ensures.all c.requires.within in
    let last = get_or_from_slice_get page (4 * k + 3) c.get.result (Data 0) c.get.ensures.word ∙ c.in-Cap.is in
    sym (ap is_cap last) ∙ cap-used (word_at page (4 * k)) (word_at page (4 * k + 1)) (word_at page (4 * k + 2)) (word_at page (4 * k + 3)) p.slot p.here ∙ ap (λ (s : Slot). is_some (name_in s)) (sym p.get)

pub returns-in-Data : goal.returns-in-Data
returns-in-Data c =
    let page = c.args.page.now in
    let k = c.args.k in
    let p = at-place page k c.requires.slots c.get.ensures.all c.requires.within in
    let last = get_or_from_slice_get page (4 * k + 3) c.get.result (Data 0) c.get.ensures.word ∙ c.in-Data.is in
    sym (ap is_cap last) ∙ cap-used (word_at page (4 * k)) (word_at page (4 * k + 1)) (word_at page (4 * k + 2)) (word_at page (4 * k + 3)) p.slot p.here ∙ ap (λ (s : Slot). is_some (name_in s)) (sym p.get)
