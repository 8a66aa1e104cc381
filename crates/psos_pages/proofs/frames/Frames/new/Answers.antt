use Rattle.std.proofs.Common.{◌≡◌, ap, length, arith, rules, replicate, Option, None, false}
use Rattle.psos_pages.specs.declared.held.Held.{Held}
use Rattle.psos_pages.proofs.Kept.{kept-new}
use Rattle.psos_pages.proofs.Columns.{frames-none}
use Rattle.std.proofs.lemmas.List.{length-replicate}
use Rattle.psos_pages.proofs.frames.Frames.new.Goals as goal

pub invariant_of-result : goal.invariant_of-result
invariant_of-result c =
    let held : c.in_ok-vec.field-0.items ≡ replicate c.args.frames None = c.in_ok-vec.ensures.items_if_clones_equal (search rules) in
    let at : c.in_ok-vec-2.field-0.items ≡ replicate 4168 None = c.in_ok-vec-2.ensures.items_if_clones_equal (search rules) in
    let stored : c.in_ok-vec-3.field-0.items ≡ replicate 4168 false = search rules in (
      omega (arith, c.in_ok-with_capacity.ensures.exact, ap length held, length-replicate {A = Option Held} c.args.frames None),
      rw (held, at, stored, c.in_ok-with_capacity.ensures.items) (kept-new c.args.frames c.requires.some c.requires.few),
    )

pub returns-clause-frames : goal.returns-clause-frames
returns-clause-frames c =
    let held : c.in_ok-vec.field-0.items ≡ replicate c.args.frames None = c.in_ok-vec.ensures.items_if_clones_equal (search rules) in
    rw (held, c.in_ok-with_capacity.ensures.items) (frames-none c.args.frames)
