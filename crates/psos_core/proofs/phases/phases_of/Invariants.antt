use Rattle.std.proofs.Common.{◌≡◌, drop, max}
use Rattle.psos_core.specs.UnderWay.{phases_most}
use Rattle.psos_core.proofs.phases.phases_of.Given as goal

abbrev pub invariant-users : goal.invariant-users
invariant-users l = max l.most (phases_most (drop l.user-index l.users)) ≡ phases_most l.users
