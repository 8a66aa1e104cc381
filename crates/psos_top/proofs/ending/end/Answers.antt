use Rattle.psos_top.proofs.CommandEnds.{run_ends}
use Rattle.psos_top.proofs.ReadScripts.{found_of}
use Rattle.psos_top.proofs.ending.end.Goals as goal

pub returns-in-Ok-clause-ends : goal.returns-in-Ok-clause-ends
returns-in-Ok-clause-ends g c = λ input read.
    run_ends c.args.command input _ _ c.in-Ok.script (found_of (λ r. r.0) input c.args.ran (c.in-Ok.script, c.in-Ok.parts) c.in-Ok.is read) c.close.ensures.ends read.later
