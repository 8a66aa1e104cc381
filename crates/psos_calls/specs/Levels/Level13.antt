-- Level 13: procedure records. States docs/levels.md, "Calls".
use Rattle.std.specs.Prelude.{⊤, ◌≡◌, IsSome, None}
use Rattle.psos_table.specs.Table.{Table, at, put, without}
use Rattle.psos_caps.specs.Capability.{Capability}
use Rattle.psos_words.specs.declared.word.Word.{Word}
use Rattle.psos_words.specs.Guard.{barred}
use Rattle.psos_calls.specs.declared.code_row.CodeRow.{CodeRow}
use Rattle.psos_calls.specs.declared.kind.Kind.TheVariants.{Code}
use Rattle.psos_calls.specs.declared.right.Right.TheVariants as rights
use Rattle.psos_calls.specs.declared.refusal.Refusal.TheVariants.{Absent, Lacks, Guarded}
use Rattle.psos_calls.specs.Levels.Calls.{LevelCall}
use Rattle.psos_calls.specs.declared.level_call.LevelCall.TheVariants.{Admit, CodeMake, Enter, CodeGone}
use Rattle.psos_calls.specs.Levels.Answers.{LevelAnswer}
use Rattle.psos_calls.specs.declared.level_answer.LevelAnswer.TheVariants.{Done, Entered, No}
use Rattle.psos_calls.specs.Language.Rights.{has}
use Rattle.psos_calls.specs.Language.Tests.{if_there, if_none, if_holds}

-- the live procedure records
abbrev pub CodeState : Type 0
CodeState = Table CodeRow

-- a record's linkage is a store of guard 1
abbrev pub admitted : Word → LevelAnswer
admitted word = if_none (barred 1 word) (λ b. No (Guarded b)) Done

abbrev pub entered : CodeState → Capability → LevelAnswer
entered s cap =
    if_there (at s cap.uid) (No (Absent Code)) (λ code.
    if_holds (has cap rights.Enter) (No (Lacks rights.Enter)) (
    Entered code.label code.link))

abbrev pub act13 : CodeState → LevelCall → CodeState × LevelAnswer
act13 s (Admit word) = (s, admitted word)
act13 s (CodeMake uid label link) = (put s uid.0 (record { label = label; link = link }), Done)
act13 s (Enter cap) = (s, entered s cap)
act13 s (CodeGone uid) = (without s uid.0, Done)
act13 s _ = (s, Done)

-- the condition of each call
abbrev pub Can13 : CodeState → LevelCall → Type 0
Can13 s (CodeMake uid label link) = (at s uid.0 ≡ None) × (barred 1 link ≡ None)
Can13 s (CodeGone uid) = IsSome (at s uid.0)
Can13 s _ = ⊤
