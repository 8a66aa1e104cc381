use Rattle.std.proofs.Common.{◌/◌, sym, ap, subst}
use Rattle.psos_calls.specs.Levels.Level7.{IsTaken}
use Rattle.psos_pages.specs.State.{paging_of}
use Rattle.psos_pages.proofs.Keeps.{page-below}
use Rattle.psos_pages.proofs.Seen.{taken-at}
use Rattle.psos_pages.proofs.pages.Pages.reach.Goals as goal

pub frame_of-requires : goal.frame_of-requires
frame_of-requires g c = page-below c.self.inside.taken c.args.page c.self.invariant.slots (taken-at c.self.inside.taken (paging_of c.self.inside.frames (g.B.Store.blocks c.self.inside.store)) (c.args.page / 8) (subst (λ p. IsTaken p (c.args.page / 8)) (sym (ap (λ v. v.slots) c.self.view_is)) c.requires)).is_taken
