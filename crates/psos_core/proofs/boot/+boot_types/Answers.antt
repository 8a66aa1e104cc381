use Rattle.std.proofs.Common.{sym, ap, ◌∙◌}
use Rattle.psos_table.specs.Table.{at}
use Rattle.psos_table.proofs.Tables.{at-empty}
use Rattle.psos_calls.specs.Levels.Level9.{TypeState}
use Rattle.psos_core.proofs.BootTables.{ok_is, new_under, next_object}
use Rattle.psos_core.proofs.boot.+boot_types.Goals as goal

pub make_object-requires-clause-new : goal.make_object-requires-clause-new
make_object-requires-clause-new t c = ap (λ (s : TypeState). at s.objects 1) (ok_is _ _ (sym c.in_ok-types.was ∙ c.new.ensures)) ∙ at-empty 1

pub make_object-requires-2-clause-new : goal.make_object-requires-2-clause-new
make_object-requires-2-clause-new t c = new_under _ _ 4 c.from.result c.args.i (ap (λ (s : TypeState). s.objects) c.in_ok-types-2.ensures) c.from.ensures (next_object c.args.i c.in-Some.rest.now)
