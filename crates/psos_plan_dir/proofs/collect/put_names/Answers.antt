use Rattle.std.proofs.Common.{List, sym, ap, arith}
use Rattle.psos_words.specs.Directory.{Slot}
use Rattle.psos_plan_dir.specs.Collected.{with_names}
use Rattle.psos_plan_dir.proofs.NameLists.{past-slots}
use Rattle.psos_plan_dir.proofs.collect.put_names.Goals as goal

pub slots-init : goal.slots-init
slots-init c = record { few = omega arith; same = sym (ap (λ (l : List Slot). with_names l c.args.names.now.keys) (past-slots c.args.page.now 16 c.requires.slots c.requires.long (omega arith))) }
