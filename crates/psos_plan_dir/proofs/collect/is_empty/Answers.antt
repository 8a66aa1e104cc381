use Rattle.std.proofs.Common.{List, sym, ap, ◌∙◌}
use Rattle.psos_words.specs.Directory.{Slot, entries_in}
use Rattle.psos_calls.specs.Plan.Objects.{no_entry}
use Rattle.psos_plan_dir.proofs.NameLists.{past-slots}
use Rattle.psos_plan_dir.proofs.collect.is_empty.Goals as goal

pub returns : goal.returns
returns c = sym (c.slots.invariant ∙ ap (λ (l : List Slot). no_entry (entries_in l)) (past-slots c.args.page.now c.slots.k c.requires.slots c.requires.long c.slots-test.false))
