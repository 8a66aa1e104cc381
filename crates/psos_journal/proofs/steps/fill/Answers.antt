use Rattle.std.proofs.Common.{refl, sym, ◌∙◌, ap, length, [], ◌∷◌, Some}
use Rattle.psos_journal.specs.Cells.{entries_in}
use Rattle.psos_journal.proofs.Beginnings.{entries_in-append}
use Rattle.psos_journal.proofs.StepRule.{adds_moves}
use Rattle.psos_journal.proofs.steps.fill.Goals as goal

pub compare_exchange-requires : goal.compare_exchange-requires
compare_exchange-requires g c =
    let h = c.requires.word in
    let log = c.args.seen.now.log in
    let offer = c.plain-offer.ensures in (
      ap (λ w. w.tracked) h,
      sym (ap (λ w. w.book) h),
      c.requires.book ∙ sym (ap (λ w. w.book) h),
      offer.0,
      rw (ap (λ w. w.key) h, c.requires.next, offer.1, offer.3) (adds_moves log c.args.entry.now (length (entries_in log)) refl),
    )

pub returns-clause-added : goal.returns-clause-added
returns-clause-added g c =
    let log = c.args.seen.now.log in
    c.compare_exchange.ensures.7 ∙ rw c.plain-offer.ensures.1 (entries_in-append log (Some c.args.entry.now ∷ []))
