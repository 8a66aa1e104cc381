use Rattle.std.proofs.Common.{sym, ap, ◌∙◌, arith}
use Rattle.psos_words.specs.Directory.{slot_for}
use Rattle.psos_dirrep.specs.EntryLists.{entry_list}
use Rattle.psos_dirrep.specs.Pages.{words_of, entry_slot}
use Rattle.psos_dirrep.proofs.PageLaws.{pages-places}
use Rattle.psos_dirrep.proofs.WholeSearch.{list-slots}
use Rattle.psos_calls.specs.Plan.Parts.{Opened}
use Rattle.psos_plan_dir.specs.Pages.{pages_in}
use Rattle.psos_plan_dir.proofs.PageWalk.{pages-count}
use Rattle.psos_plan_dir.proofs.open.Open.free_slot.Goals as goal

pub free_from-requires-clause-few : goal.free_from-requires-clause-few
free_from-requires-clause-few c =
    let few = c.self.invariant.list.few in
    let count = pages-count c.self.inside.calls in
    omega arith

pub free_from-requires-clause-slots : goal.free_from-requires-clause-slots
free_from-requires-clause-slots c = list-slots (pages_in c.self.inside.calls) c.self.invariant.list

pub returns : goal.returns
returns c =
    let pages = pages_in c.self.inside.calls in
    let list = c.self.invariant.list in
    c.entry_slot.ensures ∙ ap entry_slot c.free_from.ensures
    ∙ sym (pages-places pages (entry_list (words_of pages)) list.are list.few list.list c.self.invariant.never)
    ∙ ap (λ (d : Opened). slot_for d.slots) c.self.view_is
