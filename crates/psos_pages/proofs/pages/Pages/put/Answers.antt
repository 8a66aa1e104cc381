use Rattle.std.proofs.Common.{◌≡◌, ◌/◌, ◌∙◌, sym, ap, arith, List, [], ◌∷◌, subst, Some}
use Rattle.std.proofs.lemmas.List.{length-set}
use Rattle.psos_words.specs.declared.word.Word.{Word}
use Rattle.psos_calls.specs.Levels.Level7.{IsTaken, around, place_in_slot, with_words, written}
use Rattle.psos_pages.specs.Frames.{Paging, frame_of, put_at}
use Rattle.psos_pages.specs.State.{paging_of, slots_of}
use Rattle.psos_pages.proofs.Access.{Changed, changed-here, held-there, seen-written}
use Rattle.psos_pages.proofs.pages.Pages.put.Goals as goal

pub put-requires-clause-there : goal.put-requires-clause-there
put-requires-clause-there g c =
    let found : frame_of c.self.inside.frames.frames c.args.page ≡ Some c.in-Ok.frame = ap (λ v. frame_of v.paging.frames c.args.page) c.self.view_is ∙ c.in-Ok.ensures.found in
    held-there c.self.inside.frames.frames c.args.page c.in-Ok.frame found

pub invariant_of-self : goal.invariant_of-self
invariant_of-self g c =
    let found : frame_of c.self.inside.frames.frames c.args.page ≡ Some c.in-Ok.frame = ap (λ v. frame_of v.paging.frames c.args.page) c.self.view_is ∙ c.in-Ok.ensures.found in
    let it : Changed c.self.inside.taken c.self.inside.frames c.put.new.self (g.B.Store.blocks c.self.inside.store) c.args.page (put_at c.args.off c.args.word) =
    changed-here c.self.invariant c.args.page c.in-Ok.frame found (put_at c.args.off c.args.word) (λ (words : List Word). length-set words c.args.off c.args.word) c.put.ensures.frames c.put.ensures.hand c.put.ensures.stored in
    it.paged

pub returns-clause-slots : goal.returns-clause-slots
returns-clause-slots g c =
    let found : frame_of c.self.inside.frames.frames c.args.page ≡ Some c.in-Ok.frame = ap (λ v. frame_of v.paging.frames c.args.page) c.self.view_is ∙ c.in-Ok.ensures.found in
    let it : Changed c.self.inside.taken c.self.inside.frames c.put.new.self (g.B.Store.blocks c.self.inside.store) c.args.page (put_at c.args.off c.args.word) =
    changed-here c.self.invariant c.args.page c.in-Ok.frame found (put_at c.args.off c.args.word) (λ (words : List Word). length-set words c.args.off c.args.word) c.put.ensures.frames c.put.ensures.hand c.put.ensures.stored in
    let s : Paging = paging_of c.self.inside.frames (g.B.Store.blocks c.self.inside.store) in
    let slots : slots_of c.self.inside.taken s ≡ c.args.self.now.slots = ap (λ v. v.slots) c.self.view_is ∙ c.in-Ok.ensures.slots in
    seen-written c.self.inside.taken s c.self.invariant.sound c.args.page (subst (λ p. IsTaken p (c.args.page / 8)) (sym slots) c.requires.taken)
    (paging_of c.put.new.self (g.B.Store.blocks c.self.inside.store)) c.args.off (c.args.word ∷ []) (omega (arith, c.requires.within)) it.here it.apart
    ∙ ap (λ p. with_words p c.args.page (written (around p c.args.page) (place_in_slot c.args.page c.args.off) (c.args.word ∷ []))) slots
