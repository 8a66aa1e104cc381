use Rattle.std.proofs.Common.{◌≡◌, false, sym, ap, ◌∙◌, subst, get_or, []}
use Rattle.psos_pages.specs.Frames.{frame_at, is_used}
use Rattle.psos_pages.specs.Kept.{frame_with}
use Rattle.psos_pages.proofs.Kept.{read-held}
use Rattle.psos_pages.proofs.frames.Frames.is_used.Goals as goal

pub returns-in-Some : goal.returns-in-Some
returns-in-Some c =
    let w = get_or c.self.inside.words.items c.self.inside.hand [] in
    subst (λ v. c.in-Some.held.used ≡ is_used (frame_at v.frames v.hand)) c.self.view_is
    (sym (ap is_used (read-held c.self.inside.held.items c.self.inside.words.items c.self.inside.hand c.index.result.now c.self.invariant.1.stands c.index.ensures ∙ ap (λ o. frame_with o w) c.in-Some.is)))

pub returns-in-None : goal.returns-in-None
returns-in-None c =
    let w = get_or c.self.inside.words.items c.self.inside.hand [] in
    subst (λ v. false ≡ is_used (frame_at v.frames v.hand)) c.self.view_is
    (sym (ap is_used (read-held c.self.inside.held.items c.self.inside.words.items c.self.inside.hand c.index.result.now c.self.invariant.1.stands c.index.ensures ∙ ap (λ o. frame_with o w) c.in-None.is)))
