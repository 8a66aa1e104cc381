use Rattle.std.proofs.Common.{length, sym, subst}
use Rattle.std.specs.List.{AllByRecursion}
use Rattle.psos_model.specs.Flat.Within.{IsShort}
use Rattle.psos_model.proofs.RequestsLeft.{are_short}
use Rattle.psos_model.proofs.flat.Flat.boot.Goals as goal

pub push_users-requires-clause-few : goal.push_users-requires-clause-few
push_users-requires-clause-few c =
    let s = c.args.script.now in
    subst (AllByRecursion IsShort) (sym c.users-texts.ensures) (are_short (length s.codes) s.users c.requires.users)
