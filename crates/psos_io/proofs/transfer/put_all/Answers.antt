use Rattle.std.proofs.Common.{arith, ◌+◌, take}
use Rattle.std.specs.Io.KnownBytes.{Appends}
use Rattle.psos_io.proofs.KnownBytes.{appends_more, take_on}
use Rattle.psos_io.proofs.transfer.put_all.Goals as goal

pub pieces-preserved : goal.pieces-preserved
pieces-preserved g c =
    let before = g.K.Sink.took c.args.output.now in
    let now = g.K.Sink.took c.write.new.self in
    let more : Appends before now (take (c.pieces.done + c.in_ok-count.count) c.args.text.now) =
    rw (← take_on c.args.text.now c.pieces.done c.in_ok-count.count, ← c.split_at.ensures.back)
    (appends_more before (g.K.Sink.took c.pieces.output) now _ _ c.pieces.invariant.appended c.in_ok-count.ensures.bytes) in
    record {
      appended = more;
      within = omega (arith, c.split_at.ensures.back_len, c.in_ok-count.ensures.bound);
      later = omega (arith, c.in_ok-count.ensures.cause.later, c.pieces.invariant.later);
    }
