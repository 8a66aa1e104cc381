use Rattle.std.proofs.Common.{ap, subst}
use mathlib.Core.List.{IsPrefix}
use Rattle.psos_journal.proofs.Beginnings.{entries_in_begins}
use Rattle.psos_journal.proofs.past.Past.joined.Goals as goal

pub returns-clause-this : goal.returns-clause-this
returns-clause-this g c =
    let both = c.learn.new.self.log in
    let mine = subst (λ l. IsPrefix l both) (ap (λ s. s.log) c.again-both.ensures) c.learn.ensures.2 in
    rw (← c.self.view_is) (entries_in_begins c.self.inside.seen.log both mine)

pub returns-clause-that : goal.returns-clause-that
returns-clause-that g c = rw (← c.other.view_is) (entries_in_begins c.other.inside.seen.log c.learn.new.self.log c.learn.ensures.3)
