use Rattle.std.proofs.Common.{◌≡◌, refl, sym, ap, ◌∙◌, []}
use Rattle.psos_calls.specs.declared.entry.Entry.{Entry}
use Rattle.psos_journal.specs.Members.{named}
use Rattle.psos_journal.specs.Views.{JournalState, list_of}
use Rattle.psos_locks.proofs.Gripped.{none_known}
use Rattle.psos_locks.proofs.book.Book.know.Goals as goal

pub returns-in-None-clause-knows : goal.returns-in-None-clause-knows
returns-in-None-clause-knows g c =
    let e : list_of c.meets.new.member ≡ [] = c.in-None.ensures.none.0 refl in
    none_known c.args.member.now c.args.self.now.entries c.requires.latest (ap list_of (sym c.meets.ensures.same.1) ∙ e) (c.meets.ensures.meets ∙ ap (λ (j : JournalState Entry). named c.args.member.now.number j.entries) c.self.view_is)
