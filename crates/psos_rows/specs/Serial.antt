-- Runs in the serial order. States docs/promises.md, "Runs".
use Rattle.std.specs.Prelude.{List}
use Rattle.psos_calls.specs.declared.line.Line.{Line}
use Rattle.psos_calls.specs.Language.Script.{Script}
use Rattle.psos_model.specs.Flat.Boot.{boot}
use Rattle.psos_model.specs.Run.{IsComplete}
use Rattle.psos_model.specs.Run.SerialOrder.{IsSerialFrom}
use Rattle.psos_rows.specs.Lines.{order_in, AreLinesOf}

-- the lines of a whole run from boot, in the serial order
pub record IsSerialRun (s : Script) (lines : List Line) : Type 0 where
  pub complete : IsComplete s (order_in lines)
  pub serial : IsSerialFrom s (boot s) (order_in lines)
  pub told : AreLinesOf s (order_in lines) lines
