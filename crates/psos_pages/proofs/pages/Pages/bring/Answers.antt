use Rattle.std.proofs.Common.{◌≡◌, ◌∙◌, refl, ap, List, Option, ℕ, Some}
use Rattle.std.specs.Prelude.{is_some}
use Rattle.psos_pages.specs.Frames.{Frame, Paging, frame_of, looked_at}
use Rattle.psos_pages.specs.State.{paging_of, slots_of}
use Rattle.psos_pages.proofs.Access.{Looked, looked-here, held-there}
use Rattle.psos_pages.proofs.Room.{at_frame-found}
use Rattle.psos_pages.proofs.Seen.{slots-same}
use Rattle.psos_pages.proofs.pages.Pages.bring.Goals as goal

pub look-requires : goal.look-requires
look-requires g c =
    let found : frame_of c.self.inside.frames.frames c.args.page ≡ Some c.in-Ok.frame = ap (λ v. frame_of v.paging.frames c.args.page) c.self.view_is ∙ c.in-Ok.ensures.found in
    held-there c.self.inside.frames.frames c.args.page c.in-Ok.frame found

pub invariant_of-self : goal.invariant_of-self
invariant_of-self g c =
    let found : frame_of c.self.inside.frames.frames c.args.page ≡ Some c.in-Ok.frame = ap (λ v. frame_of v.paging.frames c.args.page) c.self.view_is ∙ c.in-Ok.ensures.found in
    let it : Looked c.self.inside.taken c.self.inside.frames c.look.new.self (g.B.Store.blocks c.self.inside.store) =
    looked-here c.self.invariant c.args.page c.in-Ok.frame found c.look.ensures.frames c.look.ensures.hand c.look.ensures.stored in
    it.paged

pub returns-clause-slots : goal.returns-clause-slots
returns-clause-slots g c =
    let found : frame_of c.self.inside.frames.frames c.args.page ≡ Some c.in-Ok.frame = ap (λ v. frame_of v.paging.frames c.args.page) c.self.view_is ∙ c.in-Ok.ensures.found in
    let it : Looked c.self.inside.taken c.self.inside.frames c.look.new.self (g.B.Store.blocks c.self.inside.store) =
    looked-here c.self.invariant c.args.page c.in-Ok.frame found c.look.ensures.frames c.look.ensures.hand c.look.ensures.stored in
    let s : Paging = paging_of c.self.inside.frames (g.B.Store.blocks c.self.inside.store) in
    let slots : slots_of c.self.inside.taken s ≡ c.args.self.now.slots = ap (λ v. v.slots) c.self.view_is ∙ c.in-Ok.ensures.slots in
    slots-same c.self.inside.taken s (paging_of c.look.new.self (g.B.Store.blocks c.self.inside.store)) 0 it.keeps.words ∙ slots

pub returns-clause-resident : goal.returns-clause-resident
returns-clause-resident g c =
    let found : frame_of c.self.inside.frames.frames c.args.page ≡ Some c.in-Ok.frame = ap (λ v. frame_of v.paging.frames c.args.page) c.self.view_is ∙ c.in-Ok.ensures.found in
    ap (λ (t : List (Option Frame)). is_some (frame_of t c.args.page)) c.look.ensures.frames
    ∙ ap (λ (o : Option ℕ). is_some o) (at_frame-found looked_at c.self.inside.frames.frames c.in-Ok.frame c.args.page (λ f. refl) ∙ found)
