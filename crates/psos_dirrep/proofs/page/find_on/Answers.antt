use Rattle.std.proofs.Common.{◌*◌, ◌+◌, ◌∙◌}
use Rattle.psos_words.specs.Words.{word_at}
use Rattle.psos_words.specs.Directory.{find}
use Rattle.psos_dirrep.specs.Pages.{slots_in}
use Rattle.psos_dirrep.proofs.SlotSearch.{page-find}
use Rattle.psos_dirrep.proofs.WholeSearch.{entry-moved, none-moved}
use Rattle.psos_dirrep.proofs.page.find_on.Goals as goal

pub returns-clause-found : goal.returns-clause-found
returns-clause-found c h =
    let name = c.args.name.now in
    let page = c.args.page.now in
    let k = c.in-Some.k in
    let is = page-find c.halves-high.result.0 c.halves-high.result.1 name page c.requires.named c.halves-high.ensures.high c.halves-high.ensures.low h in
    c.entry_on.ensures.entry ∙ entry-moved (find (slots_in page) name) c.args.base k (word_at page (4 * k)) (word_at page (4 * k + 3)) (is ∙ c.in-Some.ensures.some)

pub returns-in_default-clause-found : goal.returns-in_default-clause-found
returns-in_default-clause-found c h =
    let name = c.args.name.now in
    let page = c.args.page.now in
    let is = page-find c.halves-high.result.0 c.halves-high.result.1 name page c.requires.named c.halves-high.ensures.high c.halves-high.ensures.low h in
    none-moved (find (slots_in page) name) c.args.base (is ∙ c.in_default.ensures.none)
