use Rattle.std.proofs.Common.{sym, ◌∙◌, ap}
use Rattle.psos_journal.proofs.StepRule.{makes_moves}
use Rattle.psos_journal.proofs.steps.make.Goals as goal

pub compare_exchange-found-requires : goal.compare_exchange-found-requires
compare_exchange-found-requires g c =
    let h = c.requires.0 in
    let again = ap (λ s. s.book) c.again-seen.ensures in
    let offer = c.plain-offer.ensures in
    let pen = c.no_pen-pen.ensures in (
      ap (λ w. w.tracked) h,
      again ∙ sym (ap (λ w. w.book) h),
      pen.0 ∙ (again ∙ sym (ap (λ w. w.book) h)),
      offer.0,
      rw (ap (λ w. w.key) h, pen.1, offer.3) (makes_moves c.again-seen.result.log c.plain-offer.result.ask c.args.cells),
    )
