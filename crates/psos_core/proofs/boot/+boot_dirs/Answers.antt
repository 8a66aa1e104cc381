use Rattle.std.proofs.Common.{sym, ap, ◌∙◌}
use Rattle.psos_table.specs.Table.{Table, at}
use Rattle.psos_table.proofs.Tables.{at-empty}
use Rattle.psos_caps.specs.declared.rights.Rights.{Rights}
use Rattle.psos_core.proofs.BootTables.{ok_is, new_under, next_guard}
use Rattle.psos_core.proofs.boot.+boot_dirs.Goals as goal

pub make_directory-requires : goal.make_directory-requires
make_directory-requires t c = ap (λ (d : Table Rights). at d 1) (ok_is _ _ (sym c.in_ok-dirs.was ∙ c.new.ensures)) ∙ at-empty 1

pub make_directory-requires-2 : goal.make_directory-requires-2
make_directory-requires-2 t c = new_under _ _ 4 c.from.result c.args.i c.in_ok-dirs-2.ensures c.from.ensures (next_guard c.args.i c.in-Some.rest.now)
