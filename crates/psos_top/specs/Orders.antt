-- The order in which a command serves requests. States docs/program.md, "Commands".
use Rattle.std.specs.Prelude.{ℕ, List}
use Rattle.psos_calls.specs.declared.entry.Entry.{Entry}
use Rattle.psos_calls.specs.Language.Script.{Script}
use Rattle.psos_model.specs.Flat.Boot.{boot}
use Rattle.psos_model.specs.Replay.{System, boot_system}
use Rattle.psos_model.specs.Run.SerialOrder.{IsSerialFrom}
use Rattle.psos_model.specs.Events.Turns.{IsTurnsOrderFrom}
use Rattle.psos_core.specs.Serving.{IsWholeRun}
use Rattle.psos_top.specs.declared.command.Command.{Command}
use Rattle.psos_top.specs.declared.command.Command.TheVariants.{Serial, Turns, Run, Load}

-- from these levels at boot: the serial order, or that of the turns of the seed, or any
abbrev pub IsOrderFrom : Command → Script → System → List ℕ → Type 0
IsOrderFrom Serial s y order = IsSerialFrom s (boot s) order
IsOrderFrom (Turns seed) s y order = IsTurnsOrderFrom s y seed order
IsOrderFrom Run s y order = Unit {0}
IsOrderFrom (Load users lines seed) s y order = IsTurnsOrderFrom s y seed order

-- a whole run of the script by the command
abbrev pub IsRunBy : Command → Script → List Entry → System → Type 0
IsRunBy command s entries left = IsWholeRun s (IsOrderFrom command s (boot_system s)) entries left
