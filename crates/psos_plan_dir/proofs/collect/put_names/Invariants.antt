use Rattle.std.proofs.Common.{drop}
use Rattle.psos_dirrep.specs.Pages.{slots_in}
use Rattle.psos_plan_dir.proofs.NameLists.{HasPut}
use Rattle.psos_plan_dir.specs.Collected.{with_names}
use Rattle.psos_plan_dir.proofs.collect.put_names.Given as goal

-- the slots from here on went in
abbrev pub invariant-slots : goal.invariant-slots
invariant-slots l = HasPut l.k (l.names.keys) (with_names (drop l.k (slots_in l.page)) l.fn.names.keys)

abbrev pub decreases-slots : goal.decreases-slots
decreases-slots l = l.k
