use Rattle.std.proofs.Common.{◌*◌, ◌∙◌, sym, ap, arith, set, length, subst, None}
use Rattle.psos_calls.specs.Levels.Level7.{IsTaken}
use Rattle.psos_pages.specs.Frames.{Paging, dropped}
use Rattle.psos_pages.specs.State.{paging_of}
use Rattle.psos_pages.proofs.Dropped.{Freed, freed-here}
use Rattle.psos_pages.proofs.Seen.{TakenAt, taken-at}
use Rattle.psos_pages.proofs.pages.Pages.free.Goals as goal

pub forget_slot-requires : goal.forget_slot-requires
forget_slot-requires g c =
    let s : Paging = paging_of c.self.inside.frames (g.B.Store.blocks c.self.inside.store) in
    let there : TakenAt c.self.inside.taken s c.args.slot = taken-at c.self.inside.taken s c.args.slot (subst (λ p. IsTaken p c.args.slot) (sym (ap (λ v. v.slots) c.self.view_is)) c.requires) in
    omega (arith, there.within, c.self.invariant.slots)

pub give-requires : goal.give-requires
give-requires g c =
    let s : Paging = paging_of c.self.inside.frames (g.B.Store.blocks c.self.inside.store) in
    let there : TakenAt c.self.inside.taken s c.args.slot = taken-at c.self.inside.taken s c.args.slot (subst (λ p. IsTaken p c.args.slot) (sym (ap (λ v. v.slots) c.self.view_is)) c.requires) in
    there.is_taken

pub invariant_of-self : goal.invariant_of-self
invariant_of-self g c =
    let s : Paging = paging_of c.self.inside.frames (g.B.Store.blocks c.self.inside.store) in
    let there : TakenAt c.self.inside.taken s c.args.slot = taken-at c.self.inside.taken s c.args.slot (subst (λ p. IsTaken p c.args.slot) (sym (ap (λ v. v.slots) c.self.view_is)) c.requires) in
    let it : Freed c.self.inside.taken c.self.inside.frames c.forget_slot.new.frames (g.B.Store.blocks c.self.inside.store) c.args.slot = freed-here c.self.invariant there.within c.forget_slot.ensures in
    rw c.give.ensures it.paged

pub returns-clause-slots : goal.returns-clause-slots
returns-clause-slots g c =
    let s : Paging = paging_of c.self.inside.frames (g.B.Store.blocks c.self.inside.store) in
    let there : TakenAt c.self.inside.taken s c.args.slot = taken-at c.self.inside.taken s c.args.slot (subst (λ p. IsTaken p c.args.slot) (sym (ap (λ v. v.slots) c.self.view_is)) c.requires) in
    let it : Freed c.self.inside.taken c.self.inside.frames c.forget_slot.new.frames (g.B.Store.blocks c.self.inside.store) c.args.slot = freed-here c.self.invariant there.within c.forget_slot.ensures in
    rw c.give.ensures (it.slots ∙ ap (λ v. set v.slots c.args.slot None) c.self.view_is)

pub returns-clause-paging : goal.returns-clause-paging
returns-clause-paging g c =
    let s : Paging = paging_of c.self.inside.frames (g.B.Store.blocks c.self.inside.store) in
    let there : TakenAt c.self.inside.taken s c.args.slot = taken-at c.self.inside.taken s c.args.slot (subst (λ p. IsTaken p c.args.slot) (sym (ap (λ v. v.slots) c.self.view_is)) c.requires) in
    let it : Freed c.self.inside.taken c.self.inside.frames c.forget_slot.new.frames (g.B.Store.blocks c.self.inside.store) c.args.slot = freed-here c.self.invariant there.within c.forget_slot.ensures in
    it.paging ∙ ap (λ v. dropped 8 v.paging (8 * c.args.slot)) c.self.view_is

pub returns-clause-count : goal.returns-clause-count
returns-clause-count g c =
    let s : Paging = paging_of c.self.inside.frames (g.B.Store.blocks c.self.inside.store) in
    let there : TakenAt c.self.inside.taken s c.args.slot = taken-at c.self.inside.taken s c.args.slot (subst (λ p. IsTaken p c.args.slot) (sym (ap (λ v. v.slots) c.self.view_is)) c.requires) in
    let it : Freed c.self.inside.taken c.self.inside.frames c.forget_slot.new.frames (g.B.Store.blocks c.self.inside.store) c.args.slot = freed-here c.self.invariant there.within c.forget_slot.ensures in
    it.long ∙ ap (λ v. length v.paging.frames) c.self.view_is
