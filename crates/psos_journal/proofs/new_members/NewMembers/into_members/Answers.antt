use Rattle.std.proofs.Common.{slice_get, ap, sym, ◌∙◌}
use Rattle.psos_journal.proofs.TakenMembers.{taken_is}
use Rattle.psos_journal.proofs.new_members.NewMembers.into_members.Goals as goal

pub returns-clause-order : goal.returns-clause-order
returns-clause-order g c k m at = c.args.self.made.each k m (taken_is c.args.self.members.items c.args.count k m (ap (λ l. slice_get l k) (sym c.truncate.ensures.items) ∙ at))
