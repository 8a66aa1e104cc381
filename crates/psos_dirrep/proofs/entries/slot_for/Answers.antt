use Rattle.std.proofs.Common.{List, ap, ◌∙◌}
use Rattle.psos_words.specs.Directory.{Slot, slot_for}
use Rattle.psos_dirrep.specs.Pages.{entry_slot}
use Rattle.psos_dirrep.proofs.WholeSearch.{list-slot, list-slots}
use Rattle.psos_dirrep.proofs.entries.slot_for.Goals as goal

pub place-requires-clause-slots : goal.place-requires-clause-slots
place-requires-clause-slots c = list-slots c.entries.inside.pages.now c.entries.invariant

pub returns : goal.returns
returns c =
    c.entry_slot.ensures ∙ ap entry_slot c.place.ensures ∙ list-slot c.entries.inside.pages.now c.entries.invariant ∙ ap (λ (l : List Slot). slot_for l) c.entries.view_is
