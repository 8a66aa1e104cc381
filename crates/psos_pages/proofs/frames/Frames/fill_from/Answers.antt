use Rattle.std.proofs.Common.{◌≡◌, ◌<◌, ◌∙◌, sym, ap, arith, length, set, List, true, false, Some, None}
use Rattle.std.proofs.lemmas.List.{length-set}
use Rattle.psos_words.specs.declared.word.Word.{Word}
use Rattle.psos_words.specs.Words.{zeros}
use Rattle.psos_calls.specs.Language.Tests.{if_there}
use Rattle.psos_pages.specs.Frames.{frame_of, free_frame, new_frame}
use Rattle.psos_pages.specs.Kept.{frames_of}
use Rattle.psos_pages.proofs.Kept.{count-here, words-reach, filled-in}
use Rattle.psos_pages.proofs.frames.Frames.fill_from.Goals as goal

pub reach-requires-clause-next : goal.reach-requires-clause-next
reach-requires-clause-next c = omega (arith, words-reach c.self.invariant.1 c.args.frame (c.requires.free ∙ sym (ap (λ v. free_frame v.frames) c.self.view_is)))

pub reach-requires-clause-room : goal.reach-requires-clause-room
reach-requires-clause-room c = omega (arith, c.requires.within, count-here c.self.inside.held.items c.self.inside.words.items c.self.view_is, c.self.invariant.0)

pub index_mut-requires-2 : goal.index_mut-requires-2
index_mut-requires-2 c = omega (arith, c.requires.within, count-here c.self.inside.held.items c.self.inside.words.items c.self.view_is, c.self.inside.held.ok.0)

pub invariant_of-self : goal.invariant_of-self
invariant_of-self c =
    let within : c.args.frame < length c.self.inside.held.items = omega (arith, c.requires.within, count-here c.self.inside.held.items c.self.inside.words.items c.self.view_is) in
    let free : c.args.frame ≡ free_frame (frames_of c.self.inside.held.items c.self.inside.words.items) = c.requires.free ∙ sym (ap (λ v. free_frame v.frames) c.self.view_is) in
    let away : frame_of (frames_of c.self.inside.held.items c.self.inside.words.items) c.args.page ≡ None = ap (λ v. frame_of v.frames c.args.page) c.self.view_is ∙ c.requires.away in
    let it = filled-in c.self.invariant.1 c.reach.new.words.items c.reach.ensures.longer c.args.frame (record { page = c.args.page; used = true; changed = false }) c.read_block-is_page.new.self free within away c.requires.page c.reach.ensures.there in
    (omega (arith, c.reach.ensures.room, c.self.invariant.0, length-set c.self.inside.held.items c.args.frame (Some (record { page = c.args.page; used = true; changed = false }))), it.kept)

pub returns-clause-frames : goal.returns-clause-frames
returns-clause-frames c =
    let within : c.args.frame < length c.self.inside.held.items = omega (arith, c.requires.within, count-here c.self.inside.held.items c.self.inside.words.items c.self.view_is) in
    let free : c.args.frame ≡ free_frame (frames_of c.self.inside.held.items c.self.inside.words.items) = c.requires.free ∙ sym (ap (λ v. free_frame v.frames) c.self.view_is) in
    let away : frame_of (frames_of c.self.inside.held.items c.self.inside.words.items) c.args.page ≡ None = ap (λ v. frame_of v.frames c.args.page) c.self.view_is ∙ c.requires.away in
    let it = filled-in c.self.invariant.1 c.reach.new.words.items c.reach.ensures.longer c.args.frame (record { page = c.args.page; used = true; changed = false }) c.read_block-is_page.new.self free within away c.requires.page c.reach.ensures.there in
    it.frames ∙ ap (λ v. set v.frames c.args.frame (Some (new_frame c.args.page c.read_block-is_page.new.self))) c.self.view_is
    ∙ ap (λ (w : List Word). set c.args.self.now.frames c.args.frame (Some (new_frame c.args.page w))) (sym (ap (λ o. if_there o (zeros 64) (λ (words : List Word). words)) (c.read_block-is_page.ensures.words (c.read_block-is_page.ensures.page ∙ c.requires.is_page))))
