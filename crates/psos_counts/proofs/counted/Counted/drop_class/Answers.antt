use Rattle.std.proofs.Common.{sym, ap, ◌∙◌}
use Rattle.psos_table.specs.Table.{kept, size}
use Rattle.psos_counts.specs.Counted.{is_of_class}
use Rattle.psos_counts.proofs.ClassCounts.{counts_dropped, none_to_drop}
use Rattle.psos_counts.proofs.counted.Counted.drop_class.Goals as goal

pub returns-then-count-eq0 : goal.returns-then-count-eq0
returns-then-count-eq0 g c =
    sym (ap (kept _) (sym c.self.view_is) ∙ (none_to_drop c.self.invariant c.args.class (ap (λ m. size (kept (is_of_class g.C.Class.class c.args.class) m)) c.self.view_is ∙ (sym c.count.ensures ∙ c.if-count-eq0.true)) ∙ c.self.view_is))

pub invariant_of-self : goal.invariant_of-self
invariant_of-self g c = rw (c.keep.ensures, c.remove.ensures.rest) (counts_dropped c.self.invariant c.args.class)
