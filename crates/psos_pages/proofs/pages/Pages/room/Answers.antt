use Rattle.std.proofs.Common.{◌≤◌, ◌∙◌, refl, sym, ap, List, Option, Bool, set, length, subst, None}
use Rattle.psos_pages.specs.Frames.{Frame, Paging, is_changed, frame_at, free_frame, with_room, writes, swept, next_frame}
use Rattle.psos_pages.specs.Kept.{FramesState}
use Rattle.psos_pages.specs.State.{paging_of, blocks_of, AreStored}
use Rattle.psos_pages.proofs.Keeps.{Keeps}
use Rattle.psos_pages.proofs.Room.{Chosen, Evicted, chosen-here, stays-here, evicted-here, paged-on, room-full, writes-here}
use Rattle.psos_pages.proofs.Seen.{slots-same}
use Rattle.psos_pages.proofs.pages.Pages.room.Goals as goal

pub save-requires-clause-held : goal.save-requires-clause-held
save-requires-clause-held g c =
    let none : length c.self.inside.frames.frames ≤ free_frame c.self.inside.frames.frames = c.in_default.ensures.none.0 refl in
    let victim : Chosen c.self.inside.taken c.self.inside.frames (g.B.Store.blocks c.self.inside.store) c.sweep.new.self =
    chosen-here c.self.invariant none (c.sweep.ensures.swept ∙ ap (λ (f : FramesState). swept (length f.frames) f.frames f.hand) c.in_default.ensures.kept) (c.sweep.ensures.stored ∙ ap (λ (f : FramesState). f.stored) c.in_default.ensures.kept) in
    victim.held

pub invariant_of-self-in_default-save : goal.invariant_of-self-in_default-save
invariant_of-self-in_default-save g c =
    let none : length c.self.inside.frames.frames ≤ free_frame c.self.inside.frames.frames = c.in_default.ensures.none.0 refl in
    let victim : Chosen c.self.inside.taken c.self.inside.frames (g.B.Store.blocks c.self.inside.store) c.sweep.new.self =
    chosen-here c.self.invariant none (c.sweep.ensures.swept ∙ ap (λ (f : FramesState). swept (length f.frames) f.frames f.hand) c.in_default.ensures.kept) (c.sweep.ensures.stored ∙ ap (λ (f : FramesState). f.stored) c.in_default.ensures.kept) in
    let keeps : Keeps c.self.inside.taken (paging_of c.self.inside.frames (g.B.Store.blocks c.self.inside.store)) (paging_of c.save.new.frames (g.B.Store.blocks c.save.new.store)) =
    stays-here c.save.new.frames (g.B.Store.blocks c.save.new.store) c.self.invariant victim c.in_default-save.ensures.frames c.in_default-save.ensures.hand c.in_default-save.ensures.failed c.in_default-save.ensures.changed in
    paged-on c.self.invariant keeps c.in_default-save.ensures.marks (c.in_default-save.ensures.stored victim.stored)

pub returns-in_default-save-clause-slots : goal.returns-in_default-save-clause-slots
returns-in_default-save-clause-slots g c =
    let none : length c.self.inside.frames.frames ≤ free_frame c.self.inside.frames.frames = c.in_default.ensures.none.0 refl in
    let victim : Chosen c.self.inside.taken c.self.inside.frames (g.B.Store.blocks c.self.inside.store) c.sweep.new.self =
    chosen-here c.self.invariant none (c.sweep.ensures.swept ∙ ap (λ (f : FramesState). swept (length f.frames) f.frames f.hand) c.in_default.ensures.kept) (c.sweep.ensures.stored ∙ ap (λ (f : FramesState). f.stored) c.in_default.ensures.kept) in
    let keeps : Keeps c.self.inside.taken (paging_of c.self.inside.frames (g.B.Store.blocks c.self.inside.store)) (paging_of c.save.new.frames (g.B.Store.blocks c.save.new.store)) =
    stays-here c.save.new.frames (g.B.Store.blocks c.save.new.store) c.self.invariant victim c.in_default-save.ensures.frames c.in_default-save.ensures.hand c.in_default-save.ensures.failed c.in_default-save.ensures.changed in
    slots-same c.self.inside.taken (paging_of c.self.inside.frames (g.B.Store.blocks c.self.inside.store)) (paging_of c.save.new.frames (g.B.Store.blocks c.save.new.store)) 0 keeps.words ∙ ap (λ v. v.slots) c.self.view_is

pub returns-in_default-save-clause-named : goal.returns-in_default-save-clause-named
returns-in_default-save-clause-named g c =
    let none : length c.self.inside.frames.frames ≤ free_frame c.self.inside.frames.frames = c.in_default.ensures.none.0 refl in
    let victim : Chosen c.self.inside.taken c.self.inside.frames (g.B.Store.blocks c.self.inside.store) c.sweep.new.self =
    chosen-here c.self.invariant none (c.sweep.ensures.swept ∙ ap (λ (f : FramesState). swept (length f.frames) f.frames f.hand) c.in_default.ensures.kept) (c.sweep.ensures.stored ∙ ap (λ (f : FramesState). f.stored) c.in_default.ensures.kept) in
    ap (λ v. writes v.paging) (sym c.self.view_is)
    ∙ writes-here (paging_of c.self.inside.frames (g.B.Store.blocks c.self.inside.store)) none (ap (λ (t : Paging). is_changed (frame_at t.frames t.hand)) (sym victim.is) ∙ c.in_default-save.ensures.changed)

pub returns-in_default-save-clause-count : goal.returns-in_default-save-clause-count
returns-in_default-save-clause-count g c =
    let none : length c.self.inside.frames.frames ≤ free_frame c.self.inside.frames.frames = c.in_default.ensures.none.0 refl in
    let victim : Chosen c.self.inside.taken c.self.inside.frames (g.B.Store.blocks c.self.inside.store) c.sweep.new.self =
    chosen-here c.self.invariant none (c.sweep.ensures.swept ∙ ap (λ (f : FramesState). swept (length f.frames) f.frames f.hand) c.in_default.ensures.kept) (c.sweep.ensures.stored ∙ ap (λ (f : FramesState). f.stored) c.in_default.ensures.kept) in
    let keeps : Keeps c.self.inside.taken (paging_of c.self.inside.frames (g.B.Store.blocks c.self.inside.store)) (paging_of c.save.new.frames (g.B.Store.blocks c.save.new.store)) =
    stays-here c.save.new.frames (g.B.Store.blocks c.save.new.store) c.self.invariant victim c.in_default-save.ensures.frames c.in_default-save.ensures.hand c.in_default-save.ensures.failed c.in_default-save.ensures.changed in
    keeps.long ∙ ap (λ v. length v.paging.frames) c.self.view_is

pub evict-requires : goal.evict-requires
evict-requires g c =
    let none : length c.self.inside.frames.frames ≤ free_frame c.self.inside.frames.frames = c.in_default.ensures.none.0 refl in
    let victim : Chosen c.self.inside.taken c.self.inside.frames (g.B.Store.blocks c.self.inside.store) c.sweep.new.self =
    chosen-here c.self.invariant none (c.sweep.ensures.swept ∙ ap (λ (f : FramesState). swept (length f.frames) f.frames f.hand) c.in_default.ensures.kept) (c.sweep.ensures.stored ∙ ap (λ (f : FramesState). f.stored) c.in_default.ensures.kept) in
    rw (c.in-Ok.ensures.frames, c.in-Ok.ensures.hand) victim.held

pub invariant_of-self-2 : goal.invariant_of-self-2
invariant_of-self-2 g c =
    let none : length c.self.inside.frames.frames ≤ free_frame c.self.inside.frames.frames = c.in_default.ensures.none.0 refl in
    let victim : Chosen c.self.inside.taken c.self.inside.frames (g.B.Store.blocks c.self.inside.store) c.sweep.new.self =
    chosen-here c.self.invariant none (c.sweep.ensures.swept ∙ ap (λ (f : FramesState). swept (length f.frames) f.frames f.hand) c.in_default.ensures.kept) (c.sweep.ensures.stored ∙ ap (λ (f : FramesState). f.stored) c.in_default.ensures.kept) in
    let gone : Evicted c.self.inside.taken c.self.inside.frames (g.B.Store.blocks c.self.inside.store) c.evict.new.self (g.B.Store.blocks c.save.new.store) c.evict.result =
    evicted-here {g = c.sweep.new.self} c.self.invariant victim c.evict.result (c.evict.ensures.frame ∙ c.in-Ok.ensures.hand)
    (c.evict.ensures.frames ∙ ap (λ s. set s c.save.new.frames.hand None) c.in-Ok.ensures.frames ∙ ap (λ n. set c.sweep.new.self.frames n None) c.in-Ok.ensures.hand)
    (c.evict.ensures.hand ∙ ap (λ (s : List (Option Frame)). next_frame (length s) c.save.new.frames.hand) c.in-Ok.ensures.frames ∙ ap (λ n. next_frame (length c.sweep.new.self.frames) n) c.in-Ok.ensures.hand)
    (ap (λ s. blocks_of s (g.B.Store.blocks c.save.new.store)) c.evict.ensures.stored ∙ c.in-Ok.ensures.done) in
    paged-on c.self.invariant gone.keeps (ap (λ (s : List Bool). length s) c.evict.ensures.stored ∙ c.in-Ok.ensures.marks)
    (subst (λ s. AreStored s (g.B.Store.blocks c.save.new.store)) (sym c.evict.ensures.stored) (c.in-Ok.ensures.stored victim.stored))

pub returns-clause-slots : goal.returns-clause-slots
returns-clause-slots g c =
    let none : length c.self.inside.frames.frames ≤ free_frame c.self.inside.frames.frames = c.in_default.ensures.none.0 refl in
    let victim : Chosen c.self.inside.taken c.self.inside.frames (g.B.Store.blocks c.self.inside.store) c.sweep.new.self =
    chosen-here c.self.invariant none (c.sweep.ensures.swept ∙ ap (λ (f : FramesState). swept (length f.frames) f.frames f.hand) c.in_default.ensures.kept) (c.sweep.ensures.stored ∙ ap (λ (f : FramesState). f.stored) c.in_default.ensures.kept) in
    let gone : Evicted c.self.inside.taken c.self.inside.frames (g.B.Store.blocks c.self.inside.store) c.evict.new.self (g.B.Store.blocks c.save.new.store) c.evict.result =
    evicted-here {g = c.sweep.new.self} c.self.invariant victim c.evict.result (c.evict.ensures.frame ∙ c.in-Ok.ensures.hand)
    (c.evict.ensures.frames ∙ ap (λ s. set s c.save.new.frames.hand None) c.in-Ok.ensures.frames ∙ ap (λ n. set c.sweep.new.self.frames n None) c.in-Ok.ensures.hand)
    (c.evict.ensures.hand ∙ ap (λ (s : List (Option Frame)). next_frame (length s) c.save.new.frames.hand) c.in-Ok.ensures.frames ∙ ap (λ n. next_frame (length c.sweep.new.self.frames) n) c.in-Ok.ensures.hand)
    (ap (λ s. blocks_of s (g.B.Store.blocks c.save.new.store)) c.evict.ensures.stored ∙ c.in-Ok.ensures.done) in
    slots-same c.self.inside.taken (paging_of c.self.inside.frames (g.B.Store.blocks c.self.inside.store)) (paging_of c.evict.new.self (g.B.Store.blocks c.save.new.store)) 0 gone.keeps.words ∙ ap (λ v. v.slots) c.self.view_is

pub returns-clause-frame : goal.returns-clause-frame
returns-clause-frame g c =
    let none : length c.self.inside.frames.frames ≤ free_frame c.self.inside.frames.frames = c.in_default.ensures.none.0 refl in
    let victim : Chosen c.self.inside.taken c.self.inside.frames (g.B.Store.blocks c.self.inside.store) c.sweep.new.self =
    chosen-here c.self.invariant none (c.sweep.ensures.swept ∙ ap (λ (f : FramesState). swept (length f.frames) f.frames f.hand) c.in_default.ensures.kept) (c.sweep.ensures.stored ∙ ap (λ (f : FramesState). f.stored) c.in_default.ensures.kept) in
    let gone : Evicted c.self.inside.taken c.self.inside.frames (g.B.Store.blocks c.self.inside.store) c.evict.new.self (g.B.Store.blocks c.save.new.store) c.evict.result =
    evicted-here {g = c.sweep.new.self} c.self.invariant victim c.evict.result (c.evict.ensures.frame ∙ c.in-Ok.ensures.hand)
    (c.evict.ensures.frames ∙ ap (λ s. set s c.save.new.frames.hand None) c.in-Ok.ensures.frames ∙ ap (λ n. set c.sweep.new.self.frames n None) c.in-Ok.ensures.hand)
    (c.evict.ensures.hand ∙ ap (λ (s : List (Option Frame)). next_frame (length s) c.save.new.frames.hand) c.in-Ok.ensures.frames ∙ ap (λ n. next_frame (length c.sweep.new.self.frames) n) c.in-Ok.ensures.hand)
    (ap (λ s. blocks_of s (g.B.Store.blocks c.save.new.store)) c.evict.ensures.stored ∙ c.in-Ok.ensures.done) in
    gone.free

pub returns-clause-within : goal.returns-clause-within
returns-clause-within g c =
    let none : length c.self.inside.frames.frames ≤ free_frame c.self.inside.frames.frames = c.in_default.ensures.none.0 refl in
    let victim : Chosen c.self.inside.taken c.self.inside.frames (g.B.Store.blocks c.self.inside.store) c.sweep.new.self =
    chosen-here c.self.invariant none (c.sweep.ensures.swept ∙ ap (λ (f : FramesState). swept (length f.frames) f.frames f.hand) c.in_default.ensures.kept) (c.sweep.ensures.stored ∙ ap (λ (f : FramesState). f.stored) c.in_default.ensures.kept) in
    let gone : Evicted c.self.inside.taken c.self.inside.frames (g.B.Store.blocks c.self.inside.store) c.evict.new.self (g.B.Store.blocks c.save.new.store) c.evict.result =
    evicted-here {g = c.sweep.new.self} c.self.invariant victim c.evict.result (c.evict.ensures.frame ∙ c.in-Ok.ensures.hand)
    (c.evict.ensures.frames ∙ ap (λ s. set s c.save.new.frames.hand None) c.in-Ok.ensures.frames ∙ ap (λ n. set c.sweep.new.self.frames n None) c.in-Ok.ensures.hand)
    (c.evict.ensures.hand ∙ ap (λ (s : List (Option Frame)). next_frame (length s) c.save.new.frames.hand) c.in-Ok.ensures.frames ∙ ap (λ n. next_frame (length c.sweep.new.self.frames) n) c.in-Ok.ensures.hand)
    (ap (λ s. blocks_of s (g.B.Store.blocks c.save.new.store)) c.evict.ensures.stored ∙ c.in-Ok.ensures.done) in
    gone.within

pub returns-clause-paging : goal.returns-clause-paging
returns-clause-paging g c =
    let none : length c.self.inside.frames.frames ≤ free_frame c.self.inside.frames.frames = c.in_default.ensures.none.0 refl in
    let victim : Chosen c.self.inside.taken c.self.inside.frames (g.B.Store.blocks c.self.inside.store) c.sweep.new.self =
    chosen-here c.self.invariant none (c.sweep.ensures.swept ∙ ap (λ (f : FramesState). swept (length f.frames) f.frames f.hand) c.in_default.ensures.kept) (c.sweep.ensures.stored ∙ ap (λ (f : FramesState). f.stored) c.in_default.ensures.kept) in
    let gone : Evicted c.self.inside.taken c.self.inside.frames (g.B.Store.blocks c.self.inside.store) c.evict.new.self (g.B.Store.blocks c.save.new.store) c.evict.result =
    evicted-here {g = c.sweep.new.self} c.self.invariant victim c.evict.result (c.evict.ensures.frame ∙ c.in-Ok.ensures.hand)
    (c.evict.ensures.frames ∙ ap (λ s. set s c.save.new.frames.hand None) c.in-Ok.ensures.frames ∙ ap (λ n. set c.sweep.new.self.frames n None) c.in-Ok.ensures.hand)
    (c.evict.ensures.hand ∙ ap (λ (s : List (Option Frame)). next_frame (length s) c.save.new.frames.hand) c.in-Ok.ensures.frames ∙ ap (λ n. next_frame (length c.sweep.new.self.frames) n) c.in-Ok.ensures.hand)
    (ap (λ s. blocks_of s (g.B.Store.blocks c.save.new.store)) c.evict.ensures.stored ∙ c.in-Ok.ensures.done) in
    gone.is ∙ room-full (paging_of c.self.inside.frames (g.B.Store.blocks c.self.inside.store)) none ∙ ap (λ v. with_room v.paging) c.self.view_is

pub returns-clause-count : goal.returns-clause-count
returns-clause-count g c =
    let none : length c.self.inside.frames.frames ≤ free_frame c.self.inside.frames.frames = c.in_default.ensures.none.0 refl in
    let victim : Chosen c.self.inside.taken c.self.inside.frames (g.B.Store.blocks c.self.inside.store) c.sweep.new.self =
    chosen-here c.self.invariant none (c.sweep.ensures.swept ∙ ap (λ (f : FramesState). swept (length f.frames) f.frames f.hand) c.in_default.ensures.kept) (c.sweep.ensures.stored ∙ ap (λ (f : FramesState). f.stored) c.in_default.ensures.kept) in
    let gone : Evicted c.self.inside.taken c.self.inside.frames (g.B.Store.blocks c.self.inside.store) c.evict.new.self (g.B.Store.blocks c.save.new.store) c.evict.result =
    evicted-here {g = c.sweep.new.self} c.self.invariant victim c.evict.result (c.evict.ensures.frame ∙ c.in-Ok.ensures.hand)
    (c.evict.ensures.frames ∙ ap (λ s. set s c.save.new.frames.hand None) c.in-Ok.ensures.frames ∙ ap (λ n. set c.sweep.new.self.frames n None) c.in-Ok.ensures.hand)
    (c.evict.ensures.hand ∙ ap (λ (s : List (Option Frame)). next_frame (length s) c.save.new.frames.hand) c.in-Ok.ensures.frames ∙ ap (λ n. next_frame (length c.sweep.new.self.frames) n) c.in-Ok.ensures.hand)
    (ap (λ s. blocks_of s (g.B.Store.blocks c.save.new.store)) c.evict.ensures.stored ∙ c.in-Ok.ensures.done) in
    gone.keeps.long ∙ ap (λ v. length v.paging.frames) c.self.view_is
