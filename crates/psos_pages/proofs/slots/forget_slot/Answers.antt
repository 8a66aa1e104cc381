use Rattle.std.proofs.Common.{◌≡◌, ◌+◌, ◌-◌, ◌*◌, ◌∙◌, sym, ap, arith}
use Rattle.psos_pages.specs.State.{without_pages}
use Rattle.psos_pages.proofs.Dropped.{without-more}
use Rattle.psos_pages.proofs.slots.forget_slot.Goals as goal

pub pages-preserved : goal.pages-preserved
pages-preserved c =
    let fewer : 8 - (c.pages.k + 1) ≡ 8 - c.pages.k - 1 = omega (arith, c.pages-test.true) in
    let next : 8 * c.args.slot + (c.pages.k + 1) ≡ 8 * c.args.slot + c.pages.k + 1 = omega arith in
    ap (λ n. without_pages n c.forget.new.self (8 * c.args.slot + (c.pages.k + 1))) fewer
    ∙ ap (λ p. without_pages (8 - c.pages.k - 1) c.forget.new.self p) next
    ∙ without-more (8 - c.pages.k) c.pages.frames c.forget.new.self (8 * c.args.slot + c.pages.k) (omega (arith, c.pages-test.true)) c.forget.ensures.frames c.forget.ensures.hand c.forget.ensures.stored
    ∙ c.pages.invariant

pub returns : goal.returns
unfolding without_pages
returns c =
    let all : c.pages.k ≡ 8 = omega (arith, c.pages-test.false, c.pages.auto.k-end) in
    sym (ap (λ k. without_pages (8 - k) c.pages.frames (8 * c.args.slot + k)) all) ∙ c.pages.invariant
