use Rattle.std.proofs.Common.{◌≡◌, ◌∙◌, refl, sym, ap, arith}
use Rattle.psos_pages.specs.Frames.{swept}
use Rattle.psos_pages.proofs.Kept.{swept-more, swept-end, count-here}
use Rattle.psos_pages.proofs.frames.Frames.sweep.Goals as goal

pub looks-init : goal.looks-init
looks-init c =
    (ap (λ n. swept n c.args.self.now.frames c.args.self.now.hand) (c.len-left.ensures ∙ c.self.inside.held.ok.0 ∙ sym (count-here c.self.inside.held.items c.self.inside.words.items c.self.view_is)), refl)

pub looks-preserved : goal.looks-preserved
looks-preserved c = (
  rw (c.pass.ensures.frames, c.pass.ensures.hand) (swept-more c.looks.left c.looks.self.frames c.looks.self.hand c.looks-test.true (sym c.is_used.ensures ∙ c.if-is_used.true) ∙ c.looks.invariant.0),
  c.pass.ensures.stored ∙ c.looks.invariant.1,
)

pub returns-else-is_used-clause-swept : goal.returns-else-is_used-clause-swept
returns-else-is_used-clause-swept c = swept-end c.looks.left c.looks.self.frames c.looks.self.hand (sym c.is_used.ensures ∙ c.if-is_used.false) ∙ c.looks.invariant.0

pub returns-after-looks-clause-swept : goal.returns-after-looks-clause-swept
unfolding swept
returns-after-looks-clause-swept c =
    let none : c.looks.left ≡ 0 = omega (arith, c.looks-test.false) in
    sym (ap (λ n. swept n c.looks.self.frames c.looks.self.hand) none) ∙ c.looks.invariant.0
