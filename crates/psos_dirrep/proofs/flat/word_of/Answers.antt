use Rattle.std.proofs.Common.{ℕ, ◌+◌, ◌*◌, ◌/◌, ◌%◌, ◌≡◌, ap, ◌∙◌, arith}
use Rattle.psos_words.specs.Words.{word_at}
use Rattle.psos_dirrep.specs.Pages.{words_of}
use Rattle.psos_dirrep.proofs.SlotSteps.{flat-word}
use Rattle.psos_dirrep.proofs.flat.word_of.Goals as goal

pub returns : goal.returns
returns c =
    let pages = c.args.pages.now in
    let i = c.args.i in
    let place : 64 * (i / 64) + i % 64 ≡ i = omega arith in
    flat-word pages (i / 64) (i % 64) c.index-pages-i.result c.get.result c.requires.are (omega arith) (omega arith) c.index-pages-i.is c.get.ensures.word ∙ ap (λ (n : ℕ). word_at (words_of pages) n) place
