use Rattle.std.proofs.Common.{length, inl, refl}
use Rattle.psos_model.specs.Text.Output.{calls_of, done_text}
use Rattle.psos_print.specs.Positions.{entries_text}
use Rattle.psos_top.specs.Outcome.{stream}
use Rattle.psos_top.proofs.RunPrinting.{printed_stop, front_of_whole}
use Rattle.psos_top.proofs.ending.print_stopped.Goals as goal

pub returns-in-Ok-clause-printed : goal.returns-in-Ok-clause-printed
returns-in-Ok-clause-printed g c =
    let es = c.args.entries.now in
    printed_stop (stream g.K.Sink.took g.K.Sink.faults c.args.output.now c.put_behind.new.output) (entries_text c.args.script.now es) (done_text (length es) (calls_of es)) c.in-Ok.ensures.later 5 refl
    (record { front = front_of_whole _ _ _ c.in-Ok.ensures.whole; whole = inl c.in-Ok.ensures.whole })
