-- Level 11: user objects. States docs/levels.md, "Calls".
use Rattle.std.specs.Prelude.{⊤, ◌≡◌, ◌<◌, nat_lt, IsSome, None}
use Rattle.psos_limits.specs.declared.TheConstants.{MOST_OBJECTS}
use Rattle.psos_table.specs.Table.{Table, at, put, without, size}
use Rattle.psos_calls.specs.declared.kind.Kind.{Kind}
use Rattle.psos_calls.specs.declared.kind.Kind.TheVariants.{Segment}
use Rattle.psos_calls.specs.declared.tab.Tab.TheVariants.{Objects}
use Rattle.psos_calls.specs.declared.refusal.Refusal.TheVariants.{Exhausted}
use Rattle.psos_calls.specs.Levels.Calls.{LevelCall}
use Rattle.psos_calls.specs.declared.level_call.LevelCall.TheVariants.{Room, Enrol, KindOf, Forget}
use Rattle.psos_calls.specs.Levels.Answers.{LevelAnswer}
use Rattle.psos_calls.specs.declared.level_answer.LevelAnswer.TheVariants.{Done, Is, No}
use Rattle.psos_calls.specs.Language.Tests.{if_there, if_holds}

-- the live user objects with their kinds
abbrev pub LifeState : Type 0
LifeState = Table Kind

abbrev pub room : LifeState → LevelAnswer
room s = if_holds (nat_lt (size s) MOST_OBJECTS) (No (Exhausted Objects)) Done

abbrev pub act11 : LifeState → LevelCall → LifeState × LevelAnswer
act11 s Room = (s, room s)
act11 s (Enrol uid kind) = (put s uid.0 kind, Done)
act11 s (KindOf uid) = (s, Is (if_there (at s uid.0) Segment (λ kind. kind)))
act11 s (Forget uid) = (without s uid.0, Done)
act11 s _ = (s, Done)

-- the condition of each call
abbrev pub Can11 : LifeState → LevelCall → Type 0
Can11 s (Enrol uid kind) = (at s uid.0 ≡ None) × (size s < MOST_OBJECTS)
Can11 s (KindOf uid) = IsSome (at s uid.0)
Can11 s (Forget uid) = IsSome (at s uid.0)
Can11 s _ = ⊤
