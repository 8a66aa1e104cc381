use Rattle.psos_print.specs.Positions.{entries_text}
use Rattle.psos_top.specs.Outcome.{stream}
use Rattle.psos_top.proofs.RunPrinting.{if_err, leaves_front, line_begun}
use Rattle.psos_top.proofs.ending.put_behind.Goals as goal

pub returns-in_err-put_transcript-clause-front : goal.returns-in_err-put_transcript-clause-front
returns-in_err-put_transcript-clause-front g c = if_err _ c.from_residual.result (leaves_front (stream g.K.Sink.took g.K.Sink.faults c.args.output.now c.put_transcript.new.out) (entries_text c.args.script.now c.args.entries.now) c.args.line.now c.put_transcript.ensures.front)

pub returns-then-is_err-clause-front : goal.returns-then-is_err-clause-front
returns-then-is_err-clause-front g c = line_begun _ _ _ _ _ c.in_ok-put_transcript.ensures.whole c.put_all.ensures.front
