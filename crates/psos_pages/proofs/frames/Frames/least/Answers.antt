use Rattle.std.proofs.Common.{◌∙◌, sym, ap, arith}
use Rattle.psos_pages.specs.Frames.{free_frame}
use Rattle.psos_pages.proofs.Kept.{held-more, free-here, free-past}
use Rattle.psos_pages.proofs.frames.Frames.least.Goals as goal

pub held-preserved : goal.held-preserved
held-preserved c =
    held-more c.self.inside.held.items c.self.inside.words.items c.held.frame c.index.result.now (omega (arith, c.held-test.true, c.len.ensures, c.self.inside.held.ok.0)) c.index.ensures
    (sym c.is_some.ensures ∙ c.if-is_some.true) c.held.invariant

pub returns-else-is_some : goal.returns-else-is_some
returns-else-is_some c =
    free-here c.self.inside.held.items c.self.inside.words.items c.held.frame c.index.result.now (omega (arith, c.held-test.true, c.len.ensures, c.self.inside.held.ok.0)) c.index.ensures
    (sym c.is_some.ensures ∙ c.if-is_some.false) c.held.invariant
    ∙ ap (λ v. free_frame v.frames) c.self.view_is

pub returns-after-held : goal.returns-after-held
returns-after-held c =
    free-past c.self.inside.held.items c.self.inside.words.items c.held.frame (omega (arith, c.held-test.false, c.len.ensures, c.self.inside.held.ok.0)) c.held.invariant
    ∙ ap (λ v. free_frame v.frames) c.self.view_is
