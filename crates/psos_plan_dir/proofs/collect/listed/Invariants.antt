use Rattle.std.proofs.Common.{◌≡◌, ◌++◌}
use Rattle.psos_plan_dir.proofs.collect.listed.Given as goal

-- the names that were passed, and those that are left, are all of them
abbrev pub invariant-names : goal.invariant-names
invariant-names l = l.list ++ l.name-iterator ≡ l.initial.name-iterator
