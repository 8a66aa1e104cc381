-- How the state of level 9 is stored.
use Rattle.std.specs.Prelude.{Bool, refl}
use Rattle.std.specs.Coded.{Coded, code_by, coded×, coded_ℕ, coded_bool}
use Rattle.std.specs.FinMap as map
use Rattle.psos_table.specs.Table.{Table}
use Rattle.psos_calls.specs.declared.obj_row.ObjRow.{ObjRow}
use Rattle.psos_calls.specs.contracts.obj_row.ObjRow as obj_row
use Rattle.psos_calls.specs.Levels.Level9.{TypeState}

-- the state is stored as its two tables
abbrev pub type_state_code : Coded TypeState
type_state_code =
    code_by (Table Bool × Table ObjRow) (coded× (map.code coded_ℕ coded_bool) (map.code coded_ℕ obj_row.the_row.coded)) (λ s. (s.types, s.objects))
    (λ p. record { types = p.0; objects = p.1 }) (λ _. refl)
