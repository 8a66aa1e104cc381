use Rattle.std.proofs.Common.{Some, None}
use Rattle.psos_top.proofs.RunPrinting.{run_closed, stopped_so}
use Rattle.psos_top.proofs.ending.close.Goals as goal
use Rattle.psos_top.proofs.ending.close.Goals.{in-None, in-Some}

pub returns-clause-ends : goal.returns-clause-ends
returns-clause-ends g c = elim c.match-stopped.branch [
  | in-None w ↦ run_closed g.B.Store.faults c.args.command c.args.script.now c.args.parts c.args.start g.K.Sink.took g.K.Sink.faults c.args.output.now _ _ _ _ c.requires.left w.output-is w.status-is
      (stopped_so c.args.parts.stopped None _ w.in-None.is w.print_whole-status.ensures.status) w.print_whole-status.ensures.printed
  | in-Some w ↦ run_closed g.B.Store.faults c.args.command c.args.script.now c.args.parts c.args.start g.K.Sink.took g.K.Sink.faults c.args.output.now _ _ _ _ c.requires.left w.output-is w.status-is
      (stopped_so c.args.parts.stopped (Some w.in-Some.cause) _ w.in-Some.is w.print_stopped-status.ensures.status) w.print_stopped-status.ensures.printed
]
