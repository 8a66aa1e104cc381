-- Level 10: directories. States docs/levels.md, "Calls".
use Rattle.std.specs.Prelude.{⊤, ◌≡◌, IsSome, None}
use Rattle.psos_table.specs.Table.{Table, at, put, without}
use Rattle.psos_caps.specs.Capability.{Capability}
use Rattle.psos_caps.specs.declared.rights.Rights.{Rights}
use Rattle.psos_calls.specs.declared.right.Right.{Right}
use Rattle.psos_calls.specs.declared.kind.Kind.TheVariants.{Directory}
use Rattle.psos_calls.specs.declared.refusal.Refusal.TheVariants.{Absent, Lacks}
use Rattle.psos_calls.specs.Levels.Calls.{LevelCall}
use Rattle.psos_calls.specs.declared.level_call.LevelCall.TheVariants.{DirAt, DirMake, DirGone}
use Rattle.psos_calls.specs.Levels.Answers.{LevelAnswer}
use Rattle.psos_calls.specs.declared.level_answer.LevelAnswer.TheVariants.{Done, Guard, No}
use Rattle.psos_calls.specs.Language.Rights.{has}
use Rattle.psos_calls.specs.Language.Tests.{if_there, if_holds}

-- the live directories with their guards
abbrev pub DirState : Type 0
DirState = Table Rights

abbrev pub dir_at : DirState → Capability → Right → LevelAnswer
dir_at s cap right =
    if_there (at s cap.uid) (No (Absent Directory)) (λ guard.
    if_holds (has cap right) (No (Lacks right)) (
    Guard guard))

abbrev pub act10 : DirState → LevelCall → DirState × LevelAnswer
act10 s (DirAt cap right) = (s, dir_at s cap right)
act10 s (DirMake uid guard) = (put s uid.0 guard, Done)
act10 s (DirGone uid) = (without s uid.0, Done)
act10 s _ = (s, Done)

-- the condition of each call
abbrev pub Can10 : DirState → LevelCall → Type 0
Can10 s (DirMake uid guard) = at s uid.0 ≡ None
Can10 s (DirGone uid) = IsSome (at s uid.0)
Can10 s _ = ⊤
