use Rattle.std.proofs.Common.{◌≡◌, ◌+◌, ◌-◌, ◌*◌}
use Rattle.psos_pages.specs.State.{without_pages}
use Rattle.psos_pages.proofs.slots.forget_slot.Given as goal

abbrev pub invariant-pages : goal.invariant-pages
invariant-pages l = without_pages (8 - l.k) l.frames (8 * l.slot + l.k) ≡ without_pages 8 l.initial.frames (8 * l.slot)
