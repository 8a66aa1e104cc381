use Rattle.std.proofs.Common.{◌∙◌, sym, ap, arith}
use Rattle.std.proofs.lemmas.Option.{get_or_from_slice_get}
use Rattle.psos_words.specs.Words.{word_at}
use Rattle.psos_words.specs.declared.word.Word.TheVariants.{Data}
use Rattle.psos_pages.proofs.Kept.{held-some, read-words}
use Rattle.psos_pages.proofs.frames.Frames.word.Goals as goal

pub index-requires : goal.index-requires
index-requires c = omega (arith, c.self.invariant.1.there c.args.frame (held-some c.self.inside.held.items c.self.inside.words.items c.self.view_is c.args.frame c.requires.there), c.self.inside.words.ok.0)

pub returns-clause-word : goal.returns-clause-word
returns-clause-word c =
    sym (get_or_from_slice_get c.index.result.now c.args.off c.get-word.result (Data 0) c.get-word.ensures.word)
    ∙ ap (λ w. word_at w c.args.off) (read-words c.self.inside.held.items c.self.inside.words.items c.self.view_is c.args.frame c.requires.there (c.self.invariant.1.there c.args.frame (held-some c.self.inside.held.items c.self.inside.words.items c.self.view_is c.args.frame c.requires.there)) c.index.result.now c.index.ensures)
