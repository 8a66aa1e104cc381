use Rattle.std.proofs.Common.{◌≡◌, length, slice_index, arith, ap, ◌∙◌, subst, None}
use Rattle.psos_journal.specs.Counts.{number_of, amount_of, totals}
use Rattle.psos_journal.specs.Members.{named}
use Rattle.psos_journal.specs.Views.{JournalState}
use Rattle.psos_journal.specs.Holds.{Journals}
use Rattle.psos_journal.proofs.MemberEntries.{same_named}
use Rattle.psos_journal.proofs.JournalInvariant.{compared}
use Rattle.psos_journal.proofs.journal.Journal.meets.Goals as goal

pub invariant_of-self : goal.invariant_of-self
invariant_of-self g c =
    let j = c.self.inside in
    let m = c.member.inside in
    rw (c.step.ensures.totals, c.audit.ensures.total) (compared j.entries j.cells j.past (totals j.books) j.room j.told.total j.stopped j.left (number_of m.mark) (amount_of m.mark) c.self.invariant c.step.ensures.meets)

pub returns-clause-meets : goal.returns-clause-meets
returns-clause-meets g c =
    let j = c.self.inside in
    let m = c.member.inside in
    let none : j.left ≡ None = ap (λ (k : JournalState g.row.E.Denot). k.left) c.self.view_is ∙ c.requires.spent in
    let spent = subst (λ l. Journals j.entries j.cells j.past (totals j.books) j.room l j.told.total j.stopped) none c.self.invariant in
    let here = spent.counts m.number c.member.invariant.some_member in
    let as_many : length (named m.number m.past) ≡ length (named m.number j.past) =
    omega (arith, here, c.member.invariant.counted, c.step.ensures.meets, ap (λ k. slice_index (totals j.books) k) c.member.invariant.marked_as) in
    rw (← c.member.view_is, ← c.self.view_is) (same_named m.number m.past j.past c.joined-both.result c.joined-both.ensures.that c.joined-both.ensures.this as_many)
