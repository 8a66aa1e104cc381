use Rattle.std.proofs.Common.{arith}
use Rattle.psos_pages.proofs.Kept.{held-some, read-words}
use Rattle.psos_pages.proofs.frames.Frames.page.Goals as goal

pub index-requires : goal.index-requires
index-requires c = omega (arith, c.self.invariant.1.there c.args.frame (held-some c.self.inside.held.items c.self.inside.words.items c.self.view_is c.args.frame c.requires), c.self.inside.words.ok.0)

pub returns : goal.returns
returns c =
    read-words c.self.inside.held.items c.self.inside.words.items c.self.view_is c.args.frame c.requires
    (c.self.invariant.1.there c.args.frame (held-some c.self.inside.held.items c.self.inside.words.items c.self.view_is c.args.frame c.requires)) c.index.result.now c.index.ensures
