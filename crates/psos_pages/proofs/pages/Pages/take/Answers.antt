use Rattle.std.proofs.Common.{◌≡◌, ◌<◌, ◌∙◌, refl, sym, ap, arith, set, length, Some}
use Rattle.psos_store.specs.Slots.{least_free}
use Rattle.psos_words.specs.Words.{zeros}
use Rattle.psos_calls.specs.Levels.Level7.{first_free}
use Rattle.psos_pages.specs.Frames.{Paging}
use Rattle.psos_pages.specs.State.{paging_of, slots_of}
use Rattle.psos_pages.proofs.Dropped.{Took, took-here}
use Rattle.psos_pages.proofs.Seen.{length-slots, first_free-slots}
use Rattle.psos_pages.proofs.pages.Pages.take.Goals as goal

pub unreachable-requires : goal.unreachable-requires
unreachable-requires g c =
    let s : Paging = paging_of c.self.inside.frames (g.B.Store.blocks c.self.inside.store) in
    let least : first_free (slots_of c.self.inside.taken s) ≡ least_free c.self.inside.taken = first_free-slots c.self.inside.taken s 0 in
    let less : least_free c.self.inside.taken < length c.self.inside.taken =
    omega (arith, c.requires, least, length-slots c.self.inside.taken s 0, ap (λ v. first_free v.slots) c.self.view_is, ap (λ v. length v.slots) c.self.view_is) in
    omega (arith, c.in_default.ensures.none.0 refl, less, c.self.invariant.slots)

pub invariant_of-self : goal.invariant_of-self
invariant_of-self g c =
    let s : Paging = paging_of c.self.inside.frames (g.B.Store.blocks c.self.inside.store) in
    let least : first_free (slots_of c.self.inside.taken s) ≡ least_free c.self.inside.taken = first_free-slots c.self.inside.taken s 0 in
    let less : least_free c.self.inside.taken < length c.self.inside.taken =
    omega (arith, c.requires, least, length-slots c.self.inside.taken s 0, ap (λ v. first_free v.slots) c.self.view_is, ap (λ v. length v.slots) c.self.view_is) in
    let it : Took c.self.inside.taken c.self.inside.frames (g.B.Store.blocks c.self.inside.store) = took-here c.self.invariant less in
    rw c.in-Some.ensures.taken it.paged

pub returns-clause-slot : goal.returns-clause-slot
returns-clause-slot g c =
    let s : Paging = paging_of c.self.inside.frames (g.B.Store.blocks c.self.inside.store) in
    c.in-Some.ensures.least ∙ sym (first_free-slots c.self.inside.taken s 0) ∙ ap (λ v. first_free v.slots) c.self.view_is

pub returns-clause-slots : goal.returns-clause-slots
returns-clause-slots g c =
    let s : Paging = paging_of c.self.inside.frames (g.B.Store.blocks c.self.inside.store) in
    let least : first_free (slots_of c.self.inside.taken s) ≡ least_free c.self.inside.taken = first_free-slots c.self.inside.taken s 0 in
    let less : least_free c.self.inside.taken < length c.self.inside.taken =
    omega (arith, c.requires, least, length-slots c.self.inside.taken s 0, ap (λ v. first_free v.slots) c.self.view_is, ap (λ v. length v.slots) c.self.view_is) in
    let it : Took c.self.inside.taken c.self.inside.frames (g.B.Store.blocks c.self.inside.store) = took-here c.self.invariant less in
    rw c.in-Some.ensures.taken
    (it.slots ∙ ap (λ n. set (slots_of c.self.inside.taken s) n (Some (zeros 512))) (sym least) ∙ ap (λ v. set v.slots (first_free v.slots) (Some (zeros 512))) c.self.view_is)
