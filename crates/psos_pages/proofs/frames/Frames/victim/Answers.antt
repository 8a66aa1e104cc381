use Rattle.std.proofs.Common.{◌≡◌, ◌∙◌, sym, ap, subst, get_or, [], true, false}
use Rattle.std.proofs.lemmas.Bool.{not-true, not-false}
use Rattle.psos_pages.specs.Frames.{frame_at, is_changed, page_in}
use Rattle.psos_pages.specs.Kept.{frame_with}
use Rattle.psos_pages.proofs.Kept.{read-held}
use Rattle.psos_pages.proofs.frames.Frames.victim.Goals as goal

pub returns-in_default-clause-changed : goal.returns-in_default-clause-changed
returns-in_default-clause-changed c =
    subst (λ v. false ≡ is_changed (frame_at v.frames v.hand)) c.self.view_is (sym (ap is_changed (read-held c.self.inside.held.items c.self.inside.words.items c.self.inside.hand c.index.result.now c.self.invariant.1.stands c.index.ensures ∙ ap (λ o. frame_with o (get_or c.self.inside.words.items c.self.inside.hand [])) c.in_default.is)))

pub returns-then-not-held-clause-changed : goal.returns-then-not-held-clause-changed
returns-then-not-held-clause-changed c =
    subst (λ v. false ≡ is_changed (frame_at v.frames v.hand)) c.self.view_is (sym (ap is_changed (read-held c.self.inside.held.items c.self.inside.words.items c.self.inside.hand c.index.result.now c.self.invariant.1.stands c.index.ensures ∙ ap (λ o. frame_with o (get_or c.self.inside.words.items c.self.inside.hand [])) c.in-Some.is) ∙ not-true c.in-Some.held.changed c.if-not-held.true))

pub returns-clause-some : goal.returns-clause-some
returns-clause-some c =
    subst (λ v. c.in-Some.held.page ≡ page_in (frame_at v.frames v.hand)) c.self.view_is (sym (ap page_in (read-held c.self.inside.held.items c.self.inside.words.items c.self.inside.hand c.index.result.now c.self.invariant.1.stands c.index.ensures ∙ ap (λ o. frame_with o (get_or c.self.inside.words.items c.self.inside.hand [])) c.in-Some.is)))

pub returns-clause-changed : goal.returns-clause-changed
returns-clause-changed c =
    subst (λ v. true ≡ is_changed (frame_at v.frames v.hand)) c.self.view_is (sym (ap is_changed (read-held c.self.inside.held.items c.self.inside.words.items c.self.inside.hand c.index.result.now c.self.invariant.1.stands c.index.ensures ∙ ap (λ o. frame_with o (get_or c.self.inside.words.items c.self.inside.hand [])) c.in-Some.is) ∙ not-false c.in-Some.held.changed c.if-not-held.false))

pub returns-clause-page : goal.returns-clause-page
returns-clause-page c = c.self.invariant.1.kept.below c.self.inside.hand _ (read-held c.self.inside.held.items c.self.inside.words.items c.self.inside.hand c.index.result.now c.self.invariant.1.stands c.index.ensures ∙ ap (λ o. frame_with o (get_or c.self.inside.words.items c.self.inside.hand [])) c.in-Some.is)
