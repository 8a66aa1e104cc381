use Rattle.std.proofs.Common.{◌≡◌, ◌∙◌, refl, sym, ap, subst, arith, length, get_or, false, Some, None}
use Rattle.std.proofs.lemmas.List.{length-set}
use Rattle.psos_pages.specs.Frames.{at_frame, unmarked, next_frame}
use Rattle.psos_pages.specs.Kept.{IsHeld}
use Rattle.psos_pages.proofs.Columns.{length-frames}
use Rattle.psos_pages.proofs.Kept.{within-held, never-free, here-held, kept-marked, kept-hand, frames-marked}
use Rattle.psos_pages.proofs.frames.Frames.pass.Goals as goal

pub index-requires : goal.index-requires
index-requires c = omega (arith, within-held c.self.inside.held.items c.self.inside.words.items c.self.view_is c.self.inside.hand (subst (λ n. IsHeld c.args.self.now.frames n) (sym (ap (λ v. v.hand) c.self.view_is)) c.requires), c.self.inside.held.ok.0)

pub unreachable-requires : goal.unreachable-requires
unreachable-requires c = never-free c.self.inside.held.items c.self.inside.words.items c.self.view_is c.self.inside.hand c.index.result.now (subst (λ n. IsHeld c.args.self.now.frames n) (sym (ap (λ v. v.hand) c.self.view_is)) c.requires) c.index.ensures c.in_default.is

pub index_mut-requires : goal.index_mut-requires
index_mut-requires c = omega (arith, within-held c.self.inside.held.items c.self.inside.words.items c.self.view_is c.self.inside.hand (subst (λ n. IsHeld c.args.self.now.frames n) (sym (ap (λ v. v.hand) c.self.view_is)) c.requires), c.self.inside.held.ok.0)

pub invariant_of-self : goal.invariant_of-self
invariant_of-self c =
    let here : get_or c.self.inside.held.items c.self.inside.hand None ≡ Some c.in-Some.held = here-held c.self.inside.held.items c.self.inside.hand c.index.result.now c.in-Some.held (within-held c.self.inside.held.items c.self.inside.words.items c.self.view_is c.self.inside.hand (subst (λ n. IsHeld c.args.self.now.frames n) (sym (ap (λ v. v.hand) c.self.view_is)) c.requires)) c.index.ensures c.in-Some.is in
    let long = length-set c.self.inside.held.items c.self.inside.hand (Some (record { page = c.in-Some.held.page; used = false; changed = c.in-Some.held.changed })) in (
      omega (arith, c.self.invariant.0, long),
      kept-hand (kept-marked c.self.invariant.1 c.self.inside.hand c.in-Some.held (record { page = c.in-Some.held.page; used = false; changed = c.in-Some.held.changed }) here refl)
          c.next_frame-self-inside.result (omega (arith, long, c.next_frame-self-inside.ensures.within, c.len.ensures, c.self.inside.held.ok.0)),
    )

pub returns-clause-frames : goal.returns-clause-frames
returns-clause-frames c =
    let here : get_or c.self.inside.held.items c.self.inside.hand None ≡ Some c.in-Some.held = here-held c.self.inside.held.items c.self.inside.hand c.index.result.now c.in-Some.held (within-held c.self.inside.held.items c.self.inside.words.items c.self.view_is c.self.inside.hand (subst (λ n. IsHeld c.args.self.now.frames n) (sym (ap (λ v. v.hand) c.self.view_is)) c.requires)) c.index.ensures c.in-Some.is in
    frames-marked c.self.inside.held.items c.self.inside.words.items c.self.inside.hand c.in-Some.held (record { page = c.in-Some.held.page; used = false; changed = c.in-Some.held.changed }) unmarked here (λ w. refl) ∙ ap (λ v. at_frame unmarked v.frames v.hand) c.self.view_is

pub returns-clause-hand : goal.returns-clause-hand
returns-clause-hand c =
    c.next_frame-self-inside.ensures.next
    ∙ ap (λ n. next_frame n c.self.inside.hand) (c.len.ensures ∙ c.self.inside.held.ok.0 ∙ sym (length-frames c.self.inside.held.items c.self.inside.words.items))
    ∙ ap (λ v. next_frame (length v.frames) v.hand) c.self.view_is
