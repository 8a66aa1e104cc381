-- Level 12: processes and their mailboxes. States docs/levels.md, "Calls".
use Rattle.std.specs.Prelude.{⊤, ℕ, IsSome, nat_lt, List, [], ◌∷◌, ◌++◌, length}
use Rattle.psos_limits.specs.declared.TheConstants.{MOST_MESSAGES}
use Rattle.psos_table.specs.Table.{Table, at, put}
use Rattle.psos_caps.specs.Capability.{Capability}
use Rattle.psos_words.specs.declared.word.Word.{Word}
use Rattle.psos_words.specs.Guard.{barred}
use Rattle.psos_calls.specs.declared.kind.Kind.TheVariants.{Process}
use Rattle.psos_calls.specs.declared.right.Right.TheVariants.{Send}
use Rattle.psos_calls.specs.declared.tab.Tab.TheVariants.{Mailbox}
use Rattle.psos_calls.specs.declared.refusal.Refusal.TheVariants.{Absent, Lacks, Guarded, Exhausted, Empty}
use Rattle.psos_calls.specs.Levels.Calls.{LevelCall}
use Rattle.psos_calls.specs.declared.level_call.LevelCall.TheVariants.{Post, Draw}
use Rattle.psos_calls.specs.Levels.Answers.{LevelAnswer}
use Rattle.psos_calls.specs.declared.level_answer.LevelAnswer.TheVariants.{Done, Got, No}
use Rattle.psos_calls.specs.Language.Rights.{has}
use Rattle.psos_calls.specs.Language.Tests.{if_there, if_none, if_holds}

-- the processes with the words in their mailboxes, the first first
abbrev pub BoxState : Type 0
BoxState = Table (List Word)

abbrev pub posted : BoxState → Capability → Word → BoxState × LevelAnswer
posted s to word =
    if_there (at s to.uid) (s, No (Absent Process)) (λ box.
    if_holds (has to Send) (s, No (Lacks Send)) (
    if_none (barred 1 word) (λ b. (s, No (Guarded b))) (
    if_holds (nat_lt (length box) MOST_MESSAGES) (s, No (Exhausted Mailbox)) (
    (put s to.uid (box ++ word ∷ []), Done)))))

abbrev pub drawn_from : BoxState → ℕ → List Word → BoxState × LevelAnswer
drawn_from s u [] = (s, No Empty)
drawn_from s u (word ∷ rest) = (put s u rest, Got word)

abbrev pub act12 : BoxState → LevelCall → BoxState × LevelAnswer
act12 s (Post to word) = posted s to word
act12 s (Draw uid) = if_there (at s uid.0) (s, No Empty) (λ box. drawn_from s uid.0 box)
act12 s _ = (s, Done)

-- the condition of each call
abbrev pub Can12 : BoxState → LevelCall → Type 0
Can12 s (Draw uid) = IsSome (at s uid.0)
Can12 s _ = ⊤
