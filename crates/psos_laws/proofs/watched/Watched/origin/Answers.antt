use Rattle.psos_laws.proofs.WatchedOrigins.{run_full, kept_few}
use Rattle.psos_laws.proofs.watched.Watched.origin.Goals as goal

pub cap_at-requires-clause-full : goal.cap_at-requires-clause-full
cap_at-requires-clause-full c =
    let w = c.args.self.now in
    run_full w.script.value w.order.items w.flat c.requires.formed c.requires.state

pub told-requires : goal.told-requires
told-requires c =
    let w = c.args.self.now in
    kept_few w.script.value w.order.items w.flat w.origins c.requires.formed c.requires.legal c.requires.tells
