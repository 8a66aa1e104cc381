use Rattle.std.proofs.Common.{sym, subst}
use Rattle.psos_locks.specs.Users.{OwnView, ShowsPast, ShowPast}
use Rattle.psos_locks.proofs.own.Own.advance.Goals as goal

pub invariant_of-self : goal.invariant_of-self
invariant_of-self g c =
    let s = g.T.Run.script in
    record {
      own_is = c.self.invariant.own_is;
      past = subst (λ (o : OwnView). ShowsPast s c.args.next o.side.number o.side.past) (sym c.self.view_is) c.requires.past;
      shown = subst (λ (o : OwnView). ShowPast s c.args.next o.receipts) (sym c.self.view_is) c.requires.shown;
    }
