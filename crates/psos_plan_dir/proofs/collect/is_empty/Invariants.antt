use Rattle.std.proofs.Common.{◌≡◌, drop}
use Rattle.psos_words.specs.Directory.{entries_in}
use Rattle.psos_dirrep.specs.Pages.{slots_in}
use Rattle.psos_calls.specs.Plan.Objects.{no_entry}
use Rattle.psos_plan_dir.proofs.collect.is_empty.Given as goal

-- what is left to look at tells what the whole page tells
abbrev pub invariant-slots : goal.invariant-slots
invariant-slots l = no_entry (entries_in (slots_in l.fn.page)) ≡ no_entry (entries_in (drop l.k (slots_in l.page)))
