use Rattle.std.proofs.Common.{◌≡◌, ◌+◌, length, slice_index, arith, ap, sym, ◌∙◌, subst, Some}
use Rattle.std.specs.Int.{bit_at}
use Rattle.psos_journal.specs.Counts.{amount_of, totals}
use Rattle.psos_journal.specs.Members.{named}
use Rattle.psos_journal.specs.Views.{JournalState, Side}
use Rattle.psos_journal.specs.Holds.{Journals}
use Rattle.psos_journal.proofs.JournalInvariant.{entered, comes_last, bit_shifted}
use Rattle.psos_journal.proofs.journal.Journal.enter.Goals as goal

pub invariant_of-self : goal.invariant_of-self
invariant_of-self g c =
    let j = c.self.inside in
    let m = c.member.inside in
    let some : j.left ≡ Some c.pen.inside.left = ap (λ (k : JournalState g.row.E.Denot). k.left) c.self.view_is ∙ (c.requires.pen ∙ ap Some (sym c.pen.view_is)) in
    let held = subst (λ l. Journals j.entries j.cells j.past (totals j.books) j.room l j.told.total j.stopped) some c.self.invariant in
    let is : bit_at c.pen.inside.left m.number ≡ 1 = ap (λ n. bit_at n m.number) c.pen.view_is ∙ (ap (λ (s : Side g.row.E.Denot). bit_at c.args.pen.now s.number) c.member.view_is ∙ c.requires.named) in
    let small = c.member.invariant.some_member in
    let meets = ap (λ k. slice_index (totals j.books) k) (sym c.member.invariant.marked_as) ∙ c.step.ensures.meets in
    rw (c.step.ensures.totals, c.member.invariant.marked_as, bit_shifted m.number small)
    (entered j.entries j.cells j.past (totals j.books) j.room j.told.total j.stopped c.pen.inside.left m.number (amount_of m.mark) held small (omega (arith, small)) is meets)

pub returns-clause-list : goal.returns-clause-list
returns-clause-list g c front last whole =
    let j = c.self.inside in
    let m = c.member.inside in
    let some : j.left ≡ Some c.pen.inside.left = ap (λ (k : JournalState g.row.E.Denot). k.left) c.self.view_is ∙ (c.requires.pen ∙ ap Some (sym c.pen.view_is)) in
    let held = subst (λ l. Journals j.entries j.cells j.past (totals j.books) j.room l j.told.total j.stopped) some c.self.invariant in
    let is : bit_at c.pen.inside.left m.number ≡ 1 = ap (λ n. bit_at n m.number) c.pen.view_is ∙ (ap (λ (s : Side g.row.E.Denot). bit_at c.args.pen.now s.number) c.member.view_is ∙ c.requires.named) in
    let meets = ap (λ k. slice_index (totals j.books) k) (sym c.member.invariant.marked_as) ∙ c.step.ensures.meets in
    let here = held.counts m.number c.member.invariant.some_member in
    let more : length (named m.number m.past) + 1 ≡ length (named m.number j.past) = omega (arith, here, is, meets, c.member.invariant.counted) in
    let last_is = ap (λ (k : JournalState g.row.E.Denot). k.entries) c.self.view_is ∙ whole in
    rw (c.again.ensures, ← c.member.view_is)
    (comes_last m.number c.pen.inside.left m.past j.past c.joined-both.result front last held.opened is c.joined-both.ensures.this c.joined-both.ensures.that more last_is)

pub returns-clause-pen : goal.returns-clause-pen
returns-clause-pen g c =
    let m = c.member.inside in
    let shifted = bit_shifted m.number c.member.invariant.some_member in
    let pen = c.pen.view_is in
    let number = ap (λ (s : Side g.row.E.Denot). s.number) c.member.view_is in
    cc
