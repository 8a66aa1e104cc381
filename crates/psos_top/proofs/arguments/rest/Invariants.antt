use Rattle.std.proofs.Common.{◌≡◌, ◌++◌}
use Rattle.std.specs.Vec.Iter.{into_iter_items, into_iter_len}
use Rattle.psos_top.proofs.arguments.rest.Given as goal

-- the words so far, and those that are left, are all
abbrev pub invariant-arguments : goal.invariant-arguments
invariant-arguments l = l.words.items ++ into_iter_items l.args ≡ into_iter_items l.initial.args

abbrev pub decreases-arguments : goal.decreases-arguments
decreases-arguments l = into_iter_len l.args
