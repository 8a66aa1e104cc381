use Rattle.psos_journal.specs.Counts.{totals}
use Rattle.psos_journal.specs.Cells.{entries_in}
use Rattle.psos_journal.proofs.JournalInvariant.{starts}
use Rattle.psos_journal.proofs.journal.Journal.start.Goals as goal

pub invariant_of-journal : goal.invariant_of-journal
invariant_of-journal g c =
    let ground = c.ground.invariant in
    starts c.empty.result (entries_in c.ground.inside.seen.log) (totals c.open_all-books.result) c.ground.inside.room c.open-told.result.0.total c.empty.ensures ground.3 c.open_all-books.ensures.totals ground.7 c.open-told.ensures.total
