use Rattle.std.proofs.Common.{sym, ap, ◌∙◌, ◌+◌, ◌*◌}
use Rattle.psos_table.specs.Table.{at}
use Rattle.psos_table.proofs.Tables.{at-empty}
use Rattle.psos_calls.specs.Levels.Level8.{SegState}
use Rattle.psos_core.proofs.BootTables.{ok_is, new_under, next_rep}
use Rattle.psos_core.proofs.boot.+boot_reps.Goals as goal

pub make_segment-requires-clause-new : goal.make_segment-requires-clause-new
make_segment-requires-clause-new t c =
    let e = ok_is _ _ (sym c.in_ok-segs.was ∙ c.new.ensures) in
    (ap (λ (s : SegState). at s.segments 2) e ∙ at-empty 2, ap (λ (s : SegState). at s.windows 2) e ∙ at-empty 2)

pub make_segment-requires-2-clause-new : goal.make_segment-requires-2-clause-new
make_segment-requires-2-clause-new t c =
    let u = 5 + 4 * c.from.result in (
      new_under _ _ 5 c.from.result c.args.i (ap (λ (s : SegState). s.segments) c.in_ok-segs-2.ensures) c.from.ensures (next_rep c.args.i c.in-Some.rest.now),
      ap (λ (s : SegState). at s.windows u) c.in_ok-segs-2.ensures ∙ at-empty u,
    )
