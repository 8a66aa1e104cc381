use Rattle.std.proofs.Common.{◌≡◌, ◌<◌, ◌∙◌, sym, ap, arith, set, length, subst, false, true, None, Some}
use Rattle.psos_io.specs.Blocks.{block_at}
use Rattle.psos_words.specs.Block.{page_of}
use Rattle.psos_pages.specs.Frames.{frame_at, frame_words}
use Rattle.psos_pages.specs.State.{blocks_of, AreStored}
use Rattle.psos_pages.proofs.Stored.{blocks-less, blocks-written, stored-less, stored-more, saved-changed, saved-clean}
use Rattle.psos_pages.proofs.blocks.save.Goals as goal

pub returns-in_default-clause-done : goal.returns-in_default-clause-done
returns-in_default-clause-done g c =
    saved-clean (blocks_of c.args.frames.now.stored (g.B.Store.blocks c.args.store.now)) (frame_at c.args.frames.now.frames c.args.frames.now.hand) (sym c.in_default.ensures.changed)

pub returns-in_default-write-clause-failed : goal.returns-in_default-write-clause-failed
returns-in_default-write-clause-failed g c =
    let below : c.in-Some.page < length c.args.frames.now.stored = omega (arith, c.in-Some.ensures.page, c.requires.marks) in
    ap (λ s. blocks_of s (g.B.Store.blocks c.write.new.self)) c.set_stored.ensures.stored
    ∙ blocks-less c.args.frames.now.stored (g.B.Store.blocks c.args.store.now) (g.B.Store.blocks c.write.new.self) c.in-Some.page below c.write.ensures.others
    ∙ ap (λ n. set (blocks_of c.args.frames.now.stored (g.B.Store.blocks c.args.store.now)) n None) c.in-Some.ensures.some

pub returns-in_default-write-clause-stored : goal.returns-in_default-write-clause-stored
returns-in_default-write-clause-stored g c = λ k.
    let below : c.in-Some.page < length c.args.frames.now.stored = omega (arith, c.in-Some.ensures.page, c.requires.marks) in
    subst (λ s. AreStored s (g.B.Store.blocks c.write.new.self)) (sym c.set_stored.ensures.stored)
    (stored-less c.args.frames.now.stored (g.B.Store.blocks c.args.store.now) (g.B.Store.blocks c.write.new.self) c.in-Some.page below c.write.ensures.others k)

pub returns-clause-done : goal.returns-clause-done
returns-clause-done g c =
    let below : c.in-Some.page < length c.args.frames.now.stored = omega (arith, c.in-Some.ensures.page, c.requires.marks) in
    let written : page_of (block_at (g.B.Store.blocks c.write.new.self) c.in-Some.page) ≡ Some c.page.result.now = ap page_of c.in-Ok.ensures.written ∙ c.to_block.ensures.again in
    ap (λ s. blocks_of s (g.B.Store.blocks c.write.new.self)) (c.set_stored-2.ensures.stored ∙ ap (λ s. set s c.in-Some.page true) c.set_stored.ensures.stored)
    ∙ blocks-written c.args.frames.now.stored (g.B.Store.blocks c.args.store.now) (g.B.Store.blocks c.write.new.self) c.in-Some.page c.page.result.now below c.write.ensures.others written
    ∙ saved-changed (blocks_of c.args.frames.now.stored (g.B.Store.blocks c.args.store.now)) (frame_at c.args.frames.now.frames c.args.frames.now.hand) c.in-Some.page c.page.result.now (sym c.in-Some.ensures.changed) c.in-Some.ensures.some (c.page.ensures ∙ ap (λ n. frame_words (frame_at c.args.frames.now.frames n)) c.hand.ensures)

pub returns-clause-stored : goal.returns-clause-stored
returns-clause-stored g c = λ k.
    let below : c.in-Some.page < length c.args.frames.now.stored = omega (arith, c.in-Some.ensures.page, c.requires.marks) in
    let written : page_of (block_at (g.B.Store.blocks c.write.new.self) c.in-Some.page) ≡ Some c.page.result.now = ap page_of c.in-Ok.ensures.written ∙ c.to_block.ensures.again in
    subst (λ s. AreStored s (g.B.Store.blocks c.write.new.self)) (sym (c.set_stored-2.ensures.stored ∙ ap (λ s. set s c.in-Some.page true) c.set_stored.ensures.stored))
    (stored-more (set c.args.frames.now.stored c.in-Some.page false) (g.B.Store.blocks c.write.new.self) c.in-Some.page c.page.result.now
    (stored-less c.args.frames.now.stored (g.B.Store.blocks c.args.store.now) (g.B.Store.blocks c.write.new.self) c.in-Some.page below c.write.ensures.others k) written)
