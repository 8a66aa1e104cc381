use Rattle.std.proofs.Common.{◌≡◌, List, ap, ◌∙◌}
use Rattle.psos_text.specs.declared.name.Name.{Name}
use Rattle.psos_words.specs.Directory.{entries_in}
use Rattle.psos_dirrep.proofs.WholeSearch.{list-slots}
use Rattle.psos_calls.specs.Language.Names.{names_of}
use Rattle.psos_calls.specs.Plan.Parts.{Opened}
use Rattle.psos_plan_dir.specs.Pages.{pages_in}
use Rattle.psos_plan_dir.proofs.NameLists.{collected-is, ok-then}
use Rattle.psos_plan_dir.proofs.open.Open.names.Goals as goal

pub collected-requires-clause-slots : goal.collected-requires-clause-slots
collected-requires-clause-slots c = list-slots (pages_in c.self.inside.calls) c.self.invariant.list

pub returns : goal.returns
returns c =
    let all = c.in_ok-names.ensures ∙ collected-is (pages_in c.self.inside.calls) c.self.invariant.list ∙ ap (λ (d : Opened). names_of (entries_in d.slots)) c.self.view_is in
    ok-then c.listed.result (λ (l : List Name). l ≡ c.in_ok-names.names.keys) (λ (l : List Name). l ≡ names_of (entries_in c.args.self.now.slots)) (λ l is. is ∙ all) c.listed.ensures
