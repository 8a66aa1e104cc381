use Rattle.std.proofs.Common.{sym, ◌∙◌}
use Rattle.psos_counts.proofs.ClassCounts.{counts_gone, counts_gone_none, counts_gone_absent}
use Rattle.psos_counts.proofs.counted.Counted.remove.Goals as goal

pub invariant_of-self : goal.invariant_of-self
invariant_of-self g c = rw c.remove.ensures.rest (counts_gone_absent c.self.invariant c.args.key (sym c.remove.ensures.value ∙ c.in_err-row.was))

pub invariant_of-self-in_default : goal.invariant_of-self-in_default
invariant_of-self-in_default g c = rw c.remove.ensures.rest (counts_gone_none c.self.invariant c.args.key c.in_ok-row.row (sym c.remove.ensures.value ∙ c.in_ok-row.was) (sym c.class_of.ensures ∙ c.in_default.is))

pub invariant_of-self-2 : goal.invariant_of-self-2
invariant_of-self-2 g c = rw (c.remove.ensures.rest, c.count_down.ensures) (counts_gone c.self.invariant c.args.key c.in_ok-row.row c.in-Some.class (sym c.remove.ensures.value ∙ c.in_ok-row.was) (sym c.class_of.ensures ∙ c.in-Some.is))
