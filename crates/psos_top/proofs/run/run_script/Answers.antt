use Rattle.std.proofs.Common.{subst}
use Rattle.psos_locks.specs.Ends.{CountsFaults}
use Rattle.psos_top.proofs.ThreadRuns.{threads_left}
use Rattle.psos_top.proofs.run.run_script.Goals as goal

pub returns : goal.returns
returns g c =
    let parts = c.in_ok-parts.parts in
    let counted = subst (λ b. CountsFaults (g.B.Store.faults b) parts.store_faults parts.stopped) c.in_ok-levels.ensures.store c.in_ok-parts.ensures.counted in
    threads_left g.B.Store.faults c.args.script.now _ parts c.requires.well_formed c.in_ok-parts.ensures.ran c.in_ok-parts.ensures.given counted
