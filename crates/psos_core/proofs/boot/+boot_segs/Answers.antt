use Rattle.std.proofs.Common.{ap, ◌∙◌, ◌+◌, ◌*◌}
use Rattle.psos_table.specs.Table.{at}
use Rattle.psos_table.proofs.Tables.{at-empty}
use Rattle.psos_calls.specs.Levels.Level8.{SegState}
use Rattle.psos_core.proofs.BootTables.{new_under, next_scratch}
use Rattle.psos_core.proofs.boot.+boot_segs.Goals as goal

pub make_segment-requires-clause-new : goal.make_segment-requires-clause-new
make_segment-requires-clause-new t c =
    let u = 6 + 4 * c.from.result in (
      new_under _ _ 6 c.from.result c.args.i (ap (λ (s : SegState). s.segments) c.in_ok-segs.ensures) c.from.ensures (next_scratch c.args.all.now c.args.i c.in-Some.rest.now),
      ap (λ (s : SegState). at s.windows u) c.in_ok-segs.ensures ∙ at-empty u,
    )
