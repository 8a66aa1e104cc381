use Rattle.std.proofs.Common.{◌+◌, ◌≤◌, sym, ap, ◌∙◌, arith}
use Rattle.psos_calls.specs.Levels.Level8.{view}
use Rattle.psos_segs.specs.Within.{as_view}
use Rattle.psos_segs.proofs.SegmentBounds.{within_window, room_fits}
use Rattle.psos_segs.proofs.segs.Segs.make_window.Goals as goal

pub invariant_of-self-2 : goal.invariant_of-self-2
invariant_of-self-2 c =
    let is = ap (view c.args.self.now) (sym c.uid.ensures) ∙ sym c.in-Some.ensures.is in
    let fits : c.args.base + c.args.len ≤ c.in-Some.view.len = room_fits c.args.self.now c.args.cap c.args.base c.args.len (as_view c.in-Some.view) is c.requires.room in
    rw c.in_ok-put_new.ensures.ok (within_window c.self.invariant c.args.uid.0 _ (omega (arith, fits, c.in-Some.ensures.within)))
