use Rattle.std.proofs.Common.{◌≡◌, ◌/◌, ◌∙◌, sym, ap, subst, Some}
use Rattle.psos_words.specs.Words.{word_at}
use Rattle.psos_calls.specs.Levels.Level7.{IsTaken, around, place_in_slot}
use Rattle.psos_pages.specs.Frames.{Paging, frame_of}
use Rattle.psos_pages.specs.State.{paging_of, slots_of}
use Rattle.psos_pages.proofs.Access.{Looked, looked-here, held-there, words-there, seen-word}
use Rattle.psos_pages.proofs.Seen.{slots-same}
use Rattle.psos_pages.proofs.pages.Pages.word.Goals as goal

pub word-requires-clause-there : goal.word-requires-clause-there
word-requires-clause-there g c =
    let found : frame_of c.self.inside.frames.frames c.args.page ≡ Some c.in-Ok.frame = ap (λ v. frame_of v.paging.frames c.args.page) c.self.view_is ∙ c.in-Ok.ensures.found in
    held-there c.self.inside.frames.frames c.args.page c.in-Ok.frame found

pub invariant_of-self : goal.invariant_of-self
invariant_of-self g c =
    let found : frame_of c.self.inside.frames.frames c.args.page ≡ Some c.in-Ok.frame = ap (λ v. frame_of v.paging.frames c.args.page) c.self.view_is ∙ c.in-Ok.ensures.found in
    let it : Looked c.self.inside.taken c.self.inside.frames c.word.new.self (g.B.Store.blocks c.self.inside.store) =
    looked-here c.self.invariant c.args.page c.in-Ok.frame found c.word.ensures.frames c.word.ensures.hand c.word.ensures.stored in
    it.paged

pub returns-clause-slots : goal.returns-clause-slots
returns-clause-slots g c =
    let found : frame_of c.self.inside.frames.frames c.args.page ≡ Some c.in-Ok.frame = ap (λ v. frame_of v.paging.frames c.args.page) c.self.view_is ∙ c.in-Ok.ensures.found in
    let it : Looked c.self.inside.taken c.self.inside.frames c.word.new.self (g.B.Store.blocks c.self.inside.store) =
    looked-here c.self.invariant c.args.page c.in-Ok.frame found c.word.ensures.frames c.word.ensures.hand c.word.ensures.stored in
    let s : Paging = paging_of c.self.inside.frames (g.B.Store.blocks c.self.inside.store) in
    let slots : slots_of c.self.inside.taken s ≡ c.args.self.now.slots = ap (λ v. v.slots) c.self.view_is ∙ c.in-Ok.ensures.slots in
    slots-same c.self.inside.taken s (paging_of c.word.new.self (g.B.Store.blocks c.self.inside.store)) 0 it.keeps.words ∙ slots

pub returns-clause-word : goal.returns-clause-word
returns-clause-word g c =
    let found : frame_of c.self.inside.frames.frames c.args.page ≡ Some c.in-Ok.frame = ap (λ v. frame_of v.paging.frames c.args.page) c.self.view_is ∙ c.in-Ok.ensures.found in
    let s : Paging = paging_of c.self.inside.frames (g.B.Store.blocks c.self.inside.store) in
    let slots : slots_of c.self.inside.taken s ≡ c.args.self.now.slots = ap (λ v. v.slots) c.self.view_is ∙ c.in-Ok.ensures.slots in
    c.word.ensures.word ∙ ap (λ w. word_at w c.args.off) (words-there s c.self.invariant.sound c.args.page c.in-Ok.frame found)
    ∙ seen-word c.self.inside.taken s c.self.invariant.sound c.args.page (subst (λ p. IsTaken p (c.args.page / 8)) (sym slots) c.requires.taken) c.args.off c.requires.within
    ∙ ap (λ p. word_at (around p c.args.page) (place_in_slot c.args.page c.args.off)) slots
