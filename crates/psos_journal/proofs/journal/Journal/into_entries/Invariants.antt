use Rattle.psos_journal.proofs.MetMembers.{Met}
use Rattle.psos_journal.proofs.journal.Journal.into_entries.Given as goal

abbrev pub invariant-loop-k : goal.invariant-loop-k
invariant-loop-k g l = Met l.k l.fn.self l.self l.fn.members.items l.members.items
