use Rattle.std.proofs.Common.{◌≡◌, ◌∙◌, sym, ap, List, Option, get_or, set, false, true, Some}
use Rattle.std.proofs.lemmas.Bool.{false≢true}
use Rattle.std.specs.Prelude.{is_some}
use Rattle.psos_words.specs.declared.word.Word.{Word}
use Rattle.psos_words.specs.Words.{zeros}
use Rattle.psos_words.specs.Block.{page_of}
use Rattle.psos_calls.specs.Language.Tests.{if_there}
use Rattle.psos_pages.specs.Frames.{new_frame}
use Rattle.psos_pages.specs.State.{read_from}
use Rattle.psos_pages.proofs.Stored.{block-none, block-some}
use Rattle.psos_pages.proofs.blocks.load.Goals as goal

pub returns-then-not-is_stored-clause-frames : goal.returns-then-not-is_stored-clause-frames
returns-then-not-is_stored-clause-frames g c =
    c.fill_zero.ensures.frames
    ∙ ap (λ (w : List Word). set c.args.frames.now.frames c.args.frame (Some (new_frame c.args.page w)))
    (sym (ap (λ o. if_there o (zeros 64) (λ (words : List Word). words)) (block-none c.args.frames.now.stored (g.B.Store.blocks c.args.store.now) c.args.page (sym c.is_stored.ensures ∙ c.if-not-is_stored.true))))

pub returns-in_default-clause-untouched : goal.returns-in_default-clause-untouched
returns-in_default-clause-untouched g c = λ e.
    let here : get_or c.args.frames.now.stored c.args.page false ≡ true = sym c.is_stored.ensures ∙ c.if-not-is_stored.false in
    absurd (false≢true (sym e ∙ ap (λ (o : Option (List Word)). is_some o) (block-some c.args.frames.now.stored (g.B.Store.blocks c.args.store.now) c.args.page here) ∙ c.requires.stored.is_page c.args.page here))

pub returns-in_default-clause-named : goal.returns-in_default-clause-named
returns-in_default-clause-named g c =
    let here : get_or c.args.frames.now.stored c.args.page false ≡ true = sym c.is_stored.ensures ∙ c.if-not-is_stored.false in
    ap (λ (o : Option (List Word)). is_some o) (block-some c.args.frames.now.stored (g.B.Store.blocks c.args.store.now) c.args.page here) ∙ c.requires.stored.is_page c.args.page here

pub fill_from-requires-clause-is_page : goal.fill_from-requires-clause-is_page
fill_from-requires-clause-is_page g c =
    let here : get_or c.args.frames.now.stored c.args.page false ≡ true = sym c.is_stored.ensures ∙ c.if-not-is_stored.false in
    ap (λ b. is_some (page_of b)) c.in-Ok.ensures.given ∙ c.requires.stored.is_page c.args.page here

pub returns-clause-frames : goal.returns-clause-frames
returns-clause-frames g c =
    let here : get_or c.args.frames.now.stored c.args.page false ≡ true = sym c.is_stored.ensures ∙ c.if-not-is_stored.false in
    c.fill_from.ensures.frames
    ∙ ap (λ (w : List Word). set c.args.frames.now.frames c.args.frame (Some (new_frame c.args.page w)))
    (ap read_from c.in-Ok.ensures.given ∙ sym (ap (λ o. if_there o (zeros 64) (λ (words : List Word). words)) (block-some c.args.frames.now.stored (g.B.Store.blocks c.args.store.now) c.args.page here)))

pub returns-clause-untouched : goal.returns-clause-untouched
returns-clause-untouched g c = λ e.
    let here : get_or c.args.frames.now.stored c.args.page false ≡ true = sym c.is_stored.ensures ∙ c.if-not-is_stored.false in
    absurd (false≢true (sym e ∙ ap (λ (o : Option (List Word)). is_some o) (block-some c.args.frames.now.stored (g.B.Store.blocks c.args.store.now) c.args.page here) ∙ c.requires.stored.is_page c.args.page here))
