-- A call that its level refuses changes nothing. States docs/levels.md, "Levels".
use Rattle.std.specs.Prelude.{◌≡◌}
use Rattle.psos_calls.specs.declared.refusal.Refusal.{Refusal}
use Rattle.psos_calls.specs.Levels.Calls.{LevelCall}
use Rattle.psos_calls.specs.declared.level_answer.LevelAnswer.TheVariants.{No}
use Rattle.psos_calls.specs.Levels.{Levels, act}

-- where a call is refused, all levels are as they were
abbrev pub RefusedCallsChangeNothing : Type 0
RefusedCallsChangeNothing = (l : Levels) (call : LevelCall) (r : Refusal) → (act l call).1 ≡ No r → (act l call).0 ≡ l
