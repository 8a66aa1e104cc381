use Rattle.std.proofs.Common.{◌≡◌, ◌<◌, length, arith, ap, ◌∙◌, subst, None}
use Rattle.psos_journal.specs.Counts.{totals}
use Rattle.psos_journal.specs.Views.{JournalState}
use Rattle.psos_journal.specs.Holds.{Journals}
use Rattle.psos_journal.proofs.JournalInvariant.{begun}
use Rattle.psos_journal.proofs.journal.Journal.begin.Goals as goal

pub invariant_of-self-2 : goal.invariant_of-self-2
invariant_of-self-2 g c =
    let j = c.self.inside in
    let e = c.in_default-append.ensures in
    let none : j.left ≡ None = ap (λ (k : JournalState g.row.E.Denot). k.left) c.self.view_is ∙ c.requires.spent in
    let less : length j.past < j.room = omega (arith, c.requires.room, ap (λ (k : JournalState g.row.E.Denot). length k.entries) c.self.view_is, ap (λ (k : JournalState g.row.E.Denot). k.room) c.self.view_is) in
    let spent = subst (λ l. Journals j.entries j.cells j.past (totals j.books) j.room l j.told.total j.stopped) none c.self.invariant in
    rw (e.0, e.1, e.2) (begun j.entries j.cells j.past (totals j.books) j.room j.told.total j.stopped c.args.entry c.args.names spent less)
