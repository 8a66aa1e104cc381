use Rattle.std.proofs.Common.{sym, arith}
use Rattle.psos_model.proofs.flat.Flat.window_view.Goals as goal

pub returns-clause-small : goal.returns-clause-small
returns-clause-small c =
    let w = c.in-Some.window.now in
    let s = c.in-Some-get.segment.now in
    let live = sym c.in-Some-get.ensures in
    omega (arith, c.requires.within.windows c.args.uid w s (sym c.in-Some.ensures) live, c.requires.within.segments w.seg.0 s live)
