use Rattle.psos_laws.proofs.WatchedOrigins.{boot_kept}
use Rattle.psos_laws.proofs.watched.Watched.boot.Goals as goal

pub returns-clause-watched : goal.returns-clause-watched
returns-clause-watched c =
    let h = boot_kept c.args.script.now c.of.result.value c.new-2.result.items c.in_ok-flat.flat c.in_ok-origins.origins c.requires c.of.ensures c.new-2.ensures.items
    c.in_ok-flat.ensures c.in_ok-origins.ensures.past c.in_ok-origins.ensures.callers in
    record { formed = h.formed; legal = h.legal; state = h.state; tells = h.tells }
