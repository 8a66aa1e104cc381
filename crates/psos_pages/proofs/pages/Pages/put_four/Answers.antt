use Rattle.std.proofs.Common.{◌≡◌, ◌/◌, ◌∙◌, sym, ap, arith, rules, List, length, subst, Some}
use Rattle.psos_words.specs.declared.word.Word.{Word}
use Rattle.psos_calls.specs.Levels.Level7.{IsTaken, around, place_in_slot, with_words, written}
use Rattle.psos_pages.specs.Frames.{Paging, frame_of, four_at}
use Rattle.psos_pages.specs.State.{paging_of, slots_of}
use Rattle.psos_pages.proofs.Access.{Changed, changed-here, held-there, seen-written, length-written}
use Rattle.psos_pages.proofs.pages.Pages.put_four.Goals as goal

pub put_four-requires-clause-there : goal.put_four-requires-clause-there
put_four-requires-clause-there g c =
    let found : frame_of c.self.inside.frames.frames c.args.page ≡ Some c.in-Ok.frame = ap (λ v. frame_of v.paging.frames c.args.page) c.self.view_is ∙ c.in-Ok.ensures.found in
    held-there c.self.inside.frames.frames c.args.page c.in-Ok.frame found

pub invariant_of-self : goal.invariant_of-self
invariant_of-self g c =
    let found : frame_of c.self.inside.frames.frames c.args.page ≡ Some c.in-Ok.frame = ap (λ v. frame_of v.paging.frames c.args.page) c.self.view_is ∙ c.in-Ok.ensures.found in
    let it : Changed c.self.inside.taken c.self.inside.frames c.put_four.new.self (g.B.Store.blocks c.self.inside.store) c.args.page (four_at c.args.off c.args.four.now) =
    changed-here c.self.invariant c.args.page c.in-Ok.frame found (four_at c.args.off c.args.four.now) (λ (words : List Word). length-written words c.args.off c.args.four.now) c.put_four.ensures.frames c.put_four.ensures.hand c.put_four.ensures.stored in
    it.paged

pub returns-clause-slots : goal.returns-clause-slots
returns-clause-slots g c =
    let four : length c.args.four.now ≡ 4 = search rules in
    let found : frame_of c.self.inside.frames.frames c.args.page ≡ Some c.in-Ok.frame = ap (λ v. frame_of v.paging.frames c.args.page) c.self.view_is ∙ c.in-Ok.ensures.found in
    let it : Changed c.self.inside.taken c.self.inside.frames c.put_four.new.self (g.B.Store.blocks c.self.inside.store) c.args.page (four_at c.args.off c.args.four.now) =
    changed-here c.self.invariant c.args.page c.in-Ok.frame found (four_at c.args.off c.args.four.now) (λ (words : List Word). length-written words c.args.off c.args.four.now) c.put_four.ensures.frames c.put_four.ensures.hand c.put_four.ensures.stored in
    let s : Paging = paging_of c.self.inside.frames (g.B.Store.blocks c.self.inside.store) in
    let slots : slots_of c.self.inside.taken s ≡ c.args.self.now.slots = ap (λ v. v.slots) c.self.view_is ∙ c.in-Ok.ensures.slots in
    seen-written c.self.inside.taken s c.self.invariant.sound c.args.page (subst (λ p. IsTaken p (c.args.page / 8)) (sym slots) c.requires.taken)
    (paging_of c.put_four.new.self (g.B.Store.blocks c.self.inside.store)) c.args.off c.args.four.now (omega (arith, c.requires.within, four)) it.here it.apart
    ∙ ap (λ p. with_words p c.args.page (written (around p c.args.page) (place_in_slot c.args.page c.args.off) c.args.four.now)) slots
