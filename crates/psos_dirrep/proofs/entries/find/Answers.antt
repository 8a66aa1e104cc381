use Rattle.std.proofs.Common.{List, ap, ◌∙◌}
use Rattle.std.specs.Prelude.{option_map}
use Rattle.psos_words.specs.Directory.{Slot, find}
use Rattle.psos_dirrep.specs.Entries.{as_found}
use Rattle.psos_dirrep.proofs.WholeSearch.{list-find, list-slots}
use Rattle.psos_dirrep.proofs.entries.find.Goals as goal

pub find_from-requires-clause-slots : goal.find_from-requires-clause-slots
find_from-requires-clause-slots c = list-slots c.entries.inside.pages.now c.entries.invariant

pub returns : goal.returns
returns c =
    c.find_from.ensures ∙ ap (option_map as_found) (list-find c.entries.inside.pages.now c.args.name.now c.entries.invariant)
    ∙ ap (λ (l : List Slot). option_map as_found (find l c.args.name.now)) c.entries.view_is
