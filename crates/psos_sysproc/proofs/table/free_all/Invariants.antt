use Rattle.std.proofs.Common.{◌≡◌, ◌++◌, take, drop}
use Rattle.psos_sysproc.specs.Owners.{without_user}
use Rattle.psos_sysproc.proofs.table.free_all.Given as goal

abbrev pub invariant-locks : goal.invariant-locks
invariant-locks l = l.owners ≡ without_user l.user (take l.i l.initial.owners) ++ drop l.i l.initial.owners
