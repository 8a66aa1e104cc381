use Rattle.std.proofs.Common.{arith, length, ◌+◌, ◌*◌}
use Rattle.psos_core.proofs.BootTables.{booted_from}
use Rattle.psos_core.proofs.BootFrames.{enough_frames}
use Rattle.psos_core.proofs.boot.boot_pages.Goals as goal

pub returns-clause-slots : goal.returns-clause-slots
returns-clause-slots g c =
    let counted = booted_from c.args.texts.now _ _ (1 + 2 * length c.args.texts.now) c.requires.few c.in_ok-take_slots.ensures.slots c.in_ok-put_entries.ensures.slots in
    counted (omega arith)

pub put_entries-requires-clause-quiet : goal.put_entries-requires-clause-quiet
put_entries-requires-clause-quiet g c = enough_frames c.args.frames _ _ c.requires.least c.in_ok-pages.ensures.frames c.in_ok-take_slots.ensures.paging
