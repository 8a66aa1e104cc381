use Rattle.std.proofs.Common.{◌≡◌, ◌∙◌, sym, ap, subst, length, get_or, List, [], Option, Some, None}
use Rattle.std.proofs.lemmas.List.{length-set}
use Rattle.psos_pages.specs.Frames.{Frame, next_frame}
use Rattle.psos_pages.specs.Kept.{IsHeld}
use Rattle.psos_pages.specs.Frames.{frame_of}
use Rattle.psos_pages.proofs.Machine.{frame-of}
use Rattle.psos_pages.proofs.Kept.{frame-read, frame-page, never-free, here-held, count-here}
use Rattle.psos_pages.proofs.frames.Frames.evict.Goals as goal

pub unreachable-requires : goal.unreachable-requires
unreachable-requires c = never-free c.self.inside.held.items c.self.inside.words.items c.self.view_is c.self.inside.hand c.index.result.now (subst (λ n. IsHeld c.args.self.now.frames n) (sym (ap (λ v. v.hand) c.self.view_is)) c.requires) c.index.ensures c.in_default.is

pub empty-requires : goal.empty-requires
empty-requires c =
    let H = c.self.inside.held.items in
    let W = c.self.inside.words.items in
    let here : get_or H c.self.inside.hand None ≡ Some c.in-Some.held = here-held H c.self.inside.hand c.index.result.now c.in-Some.held c.self.invariant.1.stands c.index.ensures c.in-Some.is in
    subst (λ v. frame_of v.frames c.in-Some.held.page ≡ Some c.self.inside.hand) c.self.view_is
    (frame-of c.self.invariant.1.kept.one c.self.inside.hand (frame-page c.in-Some.held (get_or W c.self.inside.hand [])) (frame-read H W c.self.inside.hand c.in-Some.held here))

pub returns-clause-hand : goal.returns-clause-hand
returns-clause-hand c =
    let long : c.len.result ≡ length c.args.self.now.frames =
    c.len.ensures ∙ c.self-2.inside.held.ok.0 ∙ sym (count-here c.self-2.inside.held.items c.self-2.inside.words.items c.self-2.view_is)
    ∙ ap (λ (s : List (Option Frame)). length s) c.empty.ensures.frames ∙ length-set c.args.self.now.frames c.self.inside.hand None in
    c.next_frame-self-inside.ensures.next ∙ ap (λ n. next_frame n c.self.inside.hand) long ∙ ap (λ v. next_frame (length c.args.self.now.frames) v.hand) c.self.view_is
