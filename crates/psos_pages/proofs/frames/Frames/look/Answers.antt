use Rattle.std.proofs.Common.{◌≡◌, ◌∙◌, refl, ap, arith, get_or, true, Some, None}
use Rattle.std.proofs.lemmas.List.{length-set}
use Rattle.psos_pages.specs.Frames.{at_frame, looked_at}
use Rattle.psos_pages.proofs.Kept.{within-held, never-free, here-held, kept-marked, frames-marked}
use Rattle.psos_pages.proofs.frames.Frames.look.Goals as goal

pub index-requires : goal.index-requires
index-requires c = omega (arith, within-held c.self.inside.held.items c.self.inside.words.items c.self.view_is c.args.frame c.requires, c.self.inside.held.ok.0)

pub unreachable-requires : goal.unreachable-requires
unreachable-requires c = never-free c.self.inside.held.items c.self.inside.words.items c.self.view_is c.args.frame c.index.result.now c.requires c.index.ensures c.in_default.is

pub index_mut-requires : goal.index_mut-requires
index_mut-requires c = omega (arith, within-held c.self.inside.held.items c.self.inside.words.items c.self.view_is c.args.frame c.requires, c.self.inside.held.ok.0)

pub invariant_of-self : goal.invariant_of-self
invariant_of-self c =
    let here : get_or c.self.inside.held.items c.args.frame None ≡ Some c.in-Some.held = here-held c.self.inside.held.items c.args.frame c.index.result.now c.in-Some.held (within-held c.self.inside.held.items c.self.inside.words.items c.self.view_is c.args.frame c.requires) c.index.ensures c.in-Some.is in (
      omega (arith, c.self.invariant.0, length-set c.self.inside.held.items c.args.frame (Some (record { page = c.in-Some.held.page; used = true; changed = c.in-Some.held.changed }))),
      kept-marked c.self.invariant.1 c.args.frame c.in-Some.held (record { page = c.in-Some.held.page; used = true; changed = c.in-Some.held.changed }) here refl,
    )

pub returns-clause-frames : goal.returns-clause-frames
returns-clause-frames c =
    let here : get_or c.self.inside.held.items c.args.frame None ≡ Some c.in-Some.held = here-held c.self.inside.held.items c.args.frame c.index.result.now c.in-Some.held (within-held c.self.inside.held.items c.self.inside.words.items c.self.view_is c.args.frame c.requires) c.index.ensures c.in-Some.is in
    frames-marked c.self.inside.held.items c.self.inside.words.items c.args.frame c.in-Some.held (record { page = c.in-Some.held.page; used = true; changed = c.in-Some.held.changed }) looked_at here (λ w. refl) ∙ ap (λ v. at_frame looked_at v.frames c.args.frame) c.self.view_is
