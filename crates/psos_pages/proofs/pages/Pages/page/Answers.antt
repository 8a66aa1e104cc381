use Rattle.std.proofs.Common.{◌≡◌, ◌/◌, ◌∙◌, sym, ap, subst}
use Rattle.psos_calls.specs.Levels.Level7.{IsTaken, page_words}
use Rattle.psos_pages.specs.State.{paging_of, slots_of}
use Rattle.psos_pages.proofs.Keeps.{page-below}
use Rattle.psos_pages.proofs.Seen.{taken-at}
use Rattle.psos_pages.proofs.Access.{held-there, words-there, seen-page}
use Rattle.psos_pages.proofs.pages.Pages.page.Goals as goal

pub frame_of-requires : goal.frame_of-requires
frame_of-requires g c =
    page-below c.self.inside.taken c.args.page c.self.invariant.slots
    (taken-at c.self.inside.taken (paging_of c.self.inside.frames (g.B.Store.blocks c.self.inside.store)) (c.args.page / 8)
    (subst (λ p. IsTaken p (c.args.page / 8)) (sym (ap (λ v. v.slots) c.self.view_is)) c.requires.taken)).is_taken

pub page-requires : goal.page-requires
page-requires g c = held-there c.self.inside.frames.frames c.args.page c.in-Some.frame (sym c.frame_of.ensures ∙ c.in-Some.is)

pub returns-clause-words : goal.returns-clause-words
returns-clause-words g c =
    let s = paging_of c.self.inside.frames (g.B.Store.blocks c.self.inside.store) in
    let slots : slots_of c.self.inside.taken s ≡ c.args.self.now.slots = ap (λ v. v.slots) c.self.view_is in
    c.words.ensures.words ∙ c.page.ensures
    ∙ words-there s c.self.invariant.sound c.args.page c.in-Some.frame (sym c.frame_of.ensures ∙ c.in-Some.is)
    ∙ seen-page c.self.inside.taken s c.self.invariant.sound c.args.page (subst (λ p. IsTaken p (c.args.page / 8)) (sym slots) c.requires.taken)
    ∙ ap (λ p. page_words p c.args.page) slots
