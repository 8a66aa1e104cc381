use Rattle.std.proofs.Common.{Some, None}
use Rattle.psos_top.proofs.LoadEndings.{load_closed}
use Rattle.psos_top.proofs.RunPrinting.{stopped_so}
use Rattle.psos_top.specs.Loading.{counts_text}
use Rattle.psos_top.proofs.load.load_call.Goals as goal
use Rattle.psos_top.proofs.load.load_call.Goals.{in-None, in-Some}

pub returns-clause-ends : goal.returns-clause-ends
returns-clause-ends g c = elim c.match-stopped.branch [
  | in-None w ↦ load_closed g.B.Store.faults c.args.users c.args.lines c.args.seed c.in-Ok.head.items w.deref.result.now c.in-Ok._script c.in-Ok.parts _ g.K.Sink.took g.K.Sink.faults c.args.output.now _ _ _ _ c.in-Ok.ensures.made
      c.in-Ok.ensures.left w.deref.ensures.value w.output-is w.status-is (stopped_so c.in-Ok.parts.stopped None _ w.in-None.is w.print_counts-status.ensures.status) w.print_counts-status.ensures.printed
  | in-Some w ↦ load_closed g.B.Store.faults c.args.users c.args.lines c.args.seed c.in-Ok.head.items w.deref-in-Some.result.now c.in-Ok._script c.in-Ok.parts _ g.K.Sink.took g.K.Sink.faults c.args.output.now _ _ _ _ c.in-Ok.ensures.made
      c.in-Ok.ensures.left w.deref-in-Some.ensures.value w.output-is w.status-is (stopped_so c.in-Ok.parts.stopped (Some w.in-Some.cause) _ w.in-Some.is w.print_stop-status.ensures.status) (w.print_stop-status.ensures.printed (counts_text c.in-Ok.parts.entries))
]
