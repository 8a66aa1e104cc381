use Rattle.std.proofs.Common.{ap, ◌∙◌, arith}
use Rattle.std.specs.Prelude.{option_map}
use Rattle.psos_words.specs.Directory.{find}
use Rattle.psos_dirrep.specs.Entries.{as_found}
use Rattle.psos_dirrep.proofs.WholeSearch.{list-find, list-slots}
use Rattle.psos_calls.specs.Plan.Parts.{Opened}
use Rattle.psos_plan_dir.specs.Pages.{pages_in}
use Rattle.psos_plan_dir.proofs.PageWalk.{pages-count}
use Rattle.psos_plan_dir.proofs.open.Open.find.Goals as goal

pub find_from-requires-clause-few : goal.find_from-requires-clause-few
find_from-requires-clause-few c =
    let few = c.self.invariant.list.few in
    let count = pages-count c.self.inside.calls in
    omega arith

pub find_from-requires-clause-slots : goal.find_from-requires-clause-slots
find_from-requires-clause-slots c = list-slots (pages_in c.self.inside.calls) c.self.invariant.list

pub returns : goal.returns
returns c =
    c.find_from.ensures ∙ ap (option_map as_found) (list-find (pages_in c.self.inside.calls) c.args.name.now c.self.invariant.list)
    ∙ ap (λ (d : Opened). option_map as_found (find d.slots c.args.name.now)) c.self.view_is
