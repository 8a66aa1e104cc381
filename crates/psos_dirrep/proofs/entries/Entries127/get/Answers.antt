use Rattle.std.proofs.Common.{◌+◌, ◌*◌, List, sym, ap, get_or, ◌∙◌, arith}
use Rattle.psos_words.specs.declared.word.Word.{Word}
use Rattle.psos_words.specs.Directory.{Slot, Never}
use Rattle.psos_dirrep.specs.Entries.{entry_in, read_entry}
use Rattle.psos_dirrep.proofs.SlotEntries.{get-past, get-here}
use Rattle.psos_dirrep.proofs.SlotSteps.{At}
use Rattle.psos_dirrep.proofs.entries.Entries127.get.Goals as goal

pub returns-then-g-pages : goal.returns-then-g-pages
returns-then-g-pages c =
    let pages = c.self.inside.pages.now in
    sym (ap (λ (l : List Slot). entry_in (get_or l c.args.k Never)) (sym c.self.view_is) ∙ ap entry_in (get-past pages c.args.k c.self.invariant (omega arith) c.requires))

pub returns : goal.returns
returns c =
    let pages = c.self.inside.pages.now in
    let k = c.args.k in
    c.read_entry.ensures
    ∙ ap (λ (w : Word). read_entry w c.word_of-2.result c.word_of-3.result c.word_of-4.result) c.word_of.ensures
    ∙ ap (λ (w : Word). read_entry (At pages (4 * k)) w c.word_of-3.result c.word_of-4.result) c.word_of-2.ensures
    ∙ ap (λ (w : Word). read_entry (At pages (4 * k)) (At pages (4 * k + 1)) w c.word_of-4.result) c.word_of-3.ensures
    ∙ ap (λ (w : Word). read_entry (At pages (4 * k)) (At pages (4 * k + 1)) (At pages (4 * k + 2)) w) c.word_of-4.ensures
    ∙ get-here pages k c.self.invariant (omega arith) c.requires
    ∙ ap (λ (l : List Slot). entry_in (get_or l k Never)) c.self.view_is
