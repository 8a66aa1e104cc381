use Rattle.std.proofs.Common.{◌∙◌, ap, arith, set, None}
use Rattle.std.proofs.lemmas.List.{length-set}
use Rattle.psos_pages.proofs.Columns.{frames-held}
use Rattle.psos_pages.proofs.Machine.{is-within}
use Rattle.psos_pages.proofs.Kept.{below-held, kept-emptied, found-held}
use Rattle.psos_pages.proofs.frames.Frames.empty.Goals as goal

pub index_mut-requires : goal.index_mut-requires
index_mut-requires c =
    let it = found-held c.self.inside.held.items c.self.inside.words.items c.self.view_is c.args.page c.args.frame c.requires in
    omega (arith, is-within c.self.inside.held.items c.args.frame it.0 it.1, c.self.inside.held.ok.0)

pub index_mut-requires-2 : goal.index_mut-requires-2
index_mut-requires-2 c =
    let it = found-held c.self.inside.held.items c.self.inside.words.items c.self.view_is c.args.page c.args.frame c.requires in
    omega (arith, below-held c.self.invariant.1 c.args.frame it.0 it.1, it.2, c.self.invariant.1.kept.pages, c.self.inside.at.ok.0)

pub invariant_of-self : goal.invariant_of-self
invariant_of-self c =
    let it = found-held c.self.inside.held.items c.self.inside.words.items c.self.view_is c.args.page c.args.frame c.requires in (
      omega (arith, c.self.invariant.0, length-set c.self.inside.held.items c.args.frame None),
      rw c.min-self-inside.ensures (kept-emptied c.self.invariant.1 c.args.frame it.0 c.args.page it.1 it.2),
    )

pub returns-clause-frames : goal.returns-clause-frames
returns-clause-frames c =
    frames-held c.self.inside.held.items c.self.inside.words.items c.args.frame None ∙ ap (λ v. set v.frames c.args.frame None) c.self.view_is
