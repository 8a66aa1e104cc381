use Rattle.psos_agree.proofs.EntryWriting.{stands_entry, stands_no_entry}
use Rattle.psos_agree.proofs.stands.entries_stand.Goals as goal

pub returns-clause-added : goal.returns-clause-added
returns-clause-added c = λ y f d x slot slots k e h live single r free new named. stands_entry h d x live slot slots r single k e free new named

pub returns-clause-removed : goal.returns-clause-removed
returns-clause-removed c = λ y f d x slot slots name found h live single r there. stands_no_entry h d x live slot slots r single name found there
