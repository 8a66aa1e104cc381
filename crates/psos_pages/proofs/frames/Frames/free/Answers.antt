use Rattle.std.proofs.Common.{true≢false, refl, arith}
use Rattle.psos_pages.proofs.Columns.{free-length}
use Rattle.psos_pages.proofs.Kept.{count-here}
use Rattle.psos_pages.proofs.frames.Frames.free.Goals as goal

pub overflow_cast-result : goal.overflow_cast-result
overflow_cast-result c =
    let V = c.self.inside in
    omega (arith, c.if-frame-len.false, c.least-frame.ensures, c.len.ensures, V.held.ok.0, free-length c.args.self.now.frames, count-here V.held.items V.words.items c.self.view_is, c.self.invariant.1.few)

pub returns-then-frame-len-clause-none : goal.returns-then-frame-len-clause-none
returns-then-frame-len-clause-none c =
    let V = c.self.inside in
    ((λ _. omega (arith, c.if-frame-len.true, c.least-frame.ensures, c.len.ensures, V.held.ok.0, count-here V.held.items V.words.items c.self.view_is)), (λ _. refl))

pub returns-clause-none : goal.returns-clause-none
returns-clause-none c =
    let V = c.self.inside in
    ((λ e. absurd (true≢false e)), (λ h. absurd (omega (arith, h, c.if-frame-len.false, c.least-frame.ensures, c.len.ensures, V.held.ok.0, free-length c.args.self.now.frames, count-here V.held.items V.words.items c.self.view_is))))
