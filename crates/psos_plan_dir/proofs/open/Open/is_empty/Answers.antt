use Rattle.std.proofs.Common.{ap, ◌∙◌}
use Rattle.psos_words.specs.Directory.{entries_in}
use Rattle.psos_dirrep.proofs.WholeSearch.{list-slots}
use Rattle.psos_calls.specs.Plan.Objects.{no_entry}
use Rattle.psos_calls.specs.Plan.Parts.{Opened}
use Rattle.psos_plan_dir.specs.Pages.{pages_in}
use Rattle.psos_plan_dir.proofs.NameLists.{none-is}
use Rattle.psos_plan_dir.proofs.open.Open.is_empty.Goals as goal

pub none_used-requires-clause-slots : goal.none_used-requires-clause-slots
none_used-requires-clause-slots c = list-slots (pages_in c.self.inside.calls) c.self.invariant.list

pub returns : goal.returns
returns c = c.none_used.ensures ∙ none-is (pages_in c.self.inside.calls) c.self.invariant.list ∙ ap (λ (d : Opened). no_entry (entries_in d.slots)) c.self.view_is
