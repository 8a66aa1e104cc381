use Rattle.std.proofs.Common.{◌≡◌, ◌<◌, ◌/◌, ◌∙◌, refl, sym, ap, arith, get_or, length, subst, false, true, None}
use Rattle.psos_calls.specs.Levels.Level7.{IsTaken}
use Rattle.psos_pages.specs.Frames.{Paging, free_frame, frame_of, block_words}
use Rattle.psos_pages.specs.State.{paging_of, blocks_of}
use Rattle.psos_pages.proofs.Keeps.{page-below}
use Rattle.psos_pages.proofs.Room.{Fetched, fetched-here, room-away}
use Rattle.psos_pages.proofs.Seen.{taken-at, slots-same}
use Rattle.psos_pages.proofs.pages.Pages.fetch.Goals as goal

pub load-requires-clause-below : goal.load-requires-clause-below
load-requires-clause-below g c =
    let s : Paging = paging_of c.self.inside.frames (g.B.Store.blocks c.self.inside.store) in
    page-below c.self.inside.taken c.args.page c.self.invariant.slots
    (taken-at c.self.inside.taken s (c.args.page / 8) (subst (λ p. IsTaken p (c.args.page / 8)) (sym (ap (λ v. v.slots) c.self.view_is ∙ c.in-Ok.ensures.slots)) c.requires.taken)).is_taken

pub load-requires-clause-away : goal.load-requires-clause-away
load-requires-clause-away g c =
    ap (λ v. frame_of v.paging.frames c.args.page) c.self.view_is ∙ ap (λ (t : Paging). frame_of t.frames c.args.page) c.in-Ok.ensures.paging ∙ (room-away c.args.self.now.paging c.args.page c.requires.away).away

pub invariant_of-self-2 : goal.invariant_of-self-2
invariant_of-self-2 g c =
    let s : Paging = paging_of c.self.inside.frames (g.B.Store.blocks c.self.inside.store) in
    let live : get_or c.self.inside.taken (c.args.page / 8) false ≡ true =
    (taken-at c.self.inside.taken s (c.args.page / 8) (subst (λ p. IsTaken p (c.args.page / 8)) (sym (ap (λ v. v.slots) c.self.view_is ∙ c.in-Ok.ensures.slots)) c.requires.taken)).is_taken in
    let away : frame_of c.self.inside.frames.frames c.args.page ≡ None =
    ap (λ v. frame_of v.paging.frames c.args.page) c.self.view_is ∙ ap (λ (t : Paging). frame_of t.frames c.args.page) c.in-Ok.ensures.paging ∙ (room-away c.args.self.now.paging c.args.page c.requires.away).away in
    let free : c.in-Ok.frame ≡ free_frame c.self.inside.frames.frames = c.in-Ok.ensures.frame ∙ sym (ap (λ v. free_frame v.paging.frames) c.self.view_is) in
    let within : c.in-Ok.frame < length c.self.inside.frames.frames = omega (arith, c.in-Ok.ensures.within, ap (λ v. length v.paging.frames) c.self.view_is) in
    let it : Fetched c.self.inside.taken c.self.inside.frames (g.B.Store.blocks c.self.inside.store) c.load.new.frames (g.B.Store.blocks c.load.new.store) c.args.page c.in-Ok.frame =
    fetched-here (block_words (blocks_of c.self.inside.frames.stored (g.B.Store.blocks c.self.inside.store)) c.args.page) c.self.invariant free within away live
    c.in-Ok-load.ensures.frames c.in-Ok-load.ensures.hand c.in-Ok-load.ensures.stored c.in-Ok-load.ensures.kept refl in
    it.paged

pub returns-clause-slots : goal.returns-clause-slots
returns-clause-slots g c =
    let s : Paging = paging_of c.self.inside.frames (g.B.Store.blocks c.self.inside.store) in
    let live : get_or c.self.inside.taken (c.args.page / 8) false ≡ true =
    (taken-at c.self.inside.taken s (c.args.page / 8) (subst (λ p. IsTaken p (c.args.page / 8)) (sym (ap (λ v. v.slots) c.self.view_is ∙ c.in-Ok.ensures.slots)) c.requires.taken)).is_taken in
    let away : frame_of c.self.inside.frames.frames c.args.page ≡ None =
    ap (λ v. frame_of v.paging.frames c.args.page) c.self.view_is ∙ ap (λ (t : Paging). frame_of t.frames c.args.page) c.in-Ok.ensures.paging ∙ (room-away c.args.self.now.paging c.args.page c.requires.away).away in
    let free : c.in-Ok.frame ≡ free_frame c.self.inside.frames.frames = c.in-Ok.ensures.frame ∙ sym (ap (λ v. free_frame v.paging.frames) c.self.view_is) in
    let within : c.in-Ok.frame < length c.self.inside.frames.frames = omega (arith, c.in-Ok.ensures.within, ap (λ v. length v.paging.frames) c.self.view_is) in
    let it : Fetched c.self.inside.taken c.self.inside.frames (g.B.Store.blocks c.self.inside.store) c.load.new.frames (g.B.Store.blocks c.load.new.store) c.args.page c.in-Ok.frame =
    fetched-here (block_words (blocks_of c.self.inside.frames.stored (g.B.Store.blocks c.self.inside.store)) c.args.page) c.self.invariant free within away live
    c.in-Ok-load.ensures.frames c.in-Ok-load.ensures.hand c.in-Ok-load.ensures.stored c.in-Ok-load.ensures.kept refl in
    slots-same c.self.inside.taken s (paging_of c.load.new.frames (g.B.Store.blocks c.load.new.store)) 0 it.keeps.words ∙ ap (λ v. v.slots) c.self.view_is ∙ c.in-Ok.ensures.slots

pub returns-clause-found : goal.returns-clause-found
returns-clause-found g c =
    let s : Paging = paging_of c.self.inside.frames (g.B.Store.blocks c.self.inside.store) in
    let live : get_or c.self.inside.taken (c.args.page / 8) false ≡ true =
    (taken-at c.self.inside.taken s (c.args.page / 8) (subst (λ p. IsTaken p (c.args.page / 8)) (sym (ap (λ v. v.slots) c.self.view_is ∙ c.in-Ok.ensures.slots)) c.requires.taken)).is_taken in
    let away : frame_of c.self.inside.frames.frames c.args.page ≡ None =
    ap (λ v. frame_of v.paging.frames c.args.page) c.self.view_is ∙ ap (λ (t : Paging). frame_of t.frames c.args.page) c.in-Ok.ensures.paging ∙ (room-away c.args.self.now.paging c.args.page c.requires.away).away in
    let free : c.in-Ok.frame ≡ free_frame c.self.inside.frames.frames = c.in-Ok.ensures.frame ∙ sym (ap (λ v. free_frame v.paging.frames) c.self.view_is) in
    let within : c.in-Ok.frame < length c.self.inside.frames.frames = omega (arith, c.in-Ok.ensures.within, ap (λ v. length v.paging.frames) c.self.view_is) in
    let it : Fetched c.self.inside.taken c.self.inside.frames (g.B.Store.blocks c.self.inside.store) c.load.new.frames (g.B.Store.blocks c.load.new.store) c.args.page c.in-Ok.frame =
    fetched-here (block_words (blocks_of c.self.inside.frames.stored (g.B.Store.blocks c.self.inside.store)) c.args.page) c.self.invariant free within away live
    c.in-Ok-load.ensures.frames c.in-Ok-load.ensures.hand c.in-Ok-load.ensures.stored c.in-Ok-load.ensures.kept refl in
    it.found
