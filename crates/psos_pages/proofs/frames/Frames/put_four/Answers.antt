use Rattle.std.proofs.Common.{◌≡◌, ◌<◌, ◌∙◌, refl, ap, arith, length, get_or, set, List, [], true, Option, Some, None}
use Rattle.std.specs.Prelude.{is_some}
use Rattle.std.proofs.lemmas.List.{length-set, get_or_read}
use Rattle.psos_words.specs.declared.word.Word.{Word}
use Rattle.psos_calls.specs.Levels.Level7.{written}
use Rattle.psos_pages.specs.declared.held.Held.{Held}
use Rattle.psos_pages.specs.Frames.{at_frame, put_in}
use Rattle.psos_pages.specs.Kept.{frames_of}
use Rattle.psos_pages.proofs.Kept.{within-held, never-free, here-held, kept-changed, frames-changed}
use Rattle.psos_pages.proofs.frames.Frames.put_four.Goals as goal

pub index-requires : goal.index-requires
index-requires c = omega (arith, within-held c.self.inside.held.items c.self.inside.words.items c.self.view_is c.args.frame c.requires.there, c.self.inside.held.ok.0)

pub unreachable-requires : goal.unreachable-requires
unreachable-requires c = never-free c.self.inside.held.items c.self.inside.words.items c.self.view_is c.args.frame c.index.result.now c.requires.there c.index.ensures c.in_default.is

pub index_mut-requires : goal.index_mut-requires
index_mut-requires c = omega (arith, within-held c.self.inside.held.items c.self.inside.words.items c.self.view_is c.args.frame c.requires.there, c.self.inside.held.ok.0)

pub index_mut-requires-2 : goal.index_mut-requires-2
index_mut-requires-2 c =
    let here : get_or c.self.inside.held.items c.args.frame None ≡ Some c.in-Some.held = here-held c.self.inside.held.items c.args.frame c.index.result.now c.in-Some.held (within-held c.self.inside.held.items c.self.inside.words.items c.self.view_is c.args.frame c.requires.there) c.index.ensures c.in-Some.is in
    omega (arith, c.self.invariant.1.there c.args.frame (ap (λ (o : Option Held). is_some o) here), c.self.inside.words.ok.0)

pub invariant_of-self : goal.invariant_of-self
invariant_of-self c =
    let here : get_or c.self.inside.held.items c.args.frame None ≡ Some c.in-Some.held = here-held c.self.inside.held.items c.args.frame c.index.result.now c.in-Some.held (within-held c.self.inside.held.items c.self.inside.words.items c.self.view_is c.args.frame c.requires.there) c.index.ensures c.in-Some.is in (
      omega (arith, c.self.invariant.0, length-set c.self.inside.held.items c.args.frame (Some (record { page = c.in-Some.held.page; used = true; changed = true }))),
      kept-changed c.self.invariant.1 c.args.frame c.in-Some.held (record { page = c.in-Some.held.page; used = true; changed = true }) c.put_words.new.page here refl,
    )

pub returns-clause-frames : goal.returns-clause-frames
returns-clause-frames c =
    let here : get_or c.self.inside.held.items c.args.frame None ≡ Some c.in-Some.held = here-held c.self.inside.held.items c.args.frame c.index.result.now c.in-Some.held (within-held c.self.inside.held.items c.self.inside.words.items c.self.view_is c.args.frame c.requires.there) c.index.ensures c.in-Some.is in
    let there : c.args.frame < length c.self.inside.words.items = c.self.invariant.1.there c.args.frame (ap (λ (o : Option Held). is_some o) here) in
    let read : c.index_mut-2.result.now ≡ get_or c.self.inside.words.items c.args.frame [] = get_or_read c.self.inside.words.items c.args.frame c.index_mut-2.result.now there c.index_mut-2.ensures.value [] in
    ap (λ w. frames_of (set c.self.inside.held.items c.args.frame (Some (record { page = c.in-Some.held.page; used = true; changed = true }))) (set c.self.inside.words.items c.args.frame w)) (c.put_words.ensures ∙ ap (λ (words : List Word). written words c.args.off c.args.four.now) read)
    ∙ frames-changed c.self.inside.held.items c.self.inside.words.items c.args.frame c.in-Some.held (record { page = c.in-Some.held.page; used = true; changed = true }) (put_in (λ (words : List Word). written words c.args.off c.args.four.now)) (λ (words : List Word). written words c.args.off c.args.four.now) there here (λ w. refl)
    ∙ ap (λ v. at_frame (put_in (λ (words : List Word). written words c.args.off c.args.four.now)) v.frames c.args.frame) c.self.view_is
