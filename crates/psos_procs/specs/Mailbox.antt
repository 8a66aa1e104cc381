-- A mailbox as a machine of its own: the part of level 12 that is this mailbox. States docs/levels.md, "Calls" and "Locks".
use Rattle.std.specs.Prelude.{ℕ, ◌+◌, ◌*◌, ◌==◌, List, [], ◌∷◌, ◌++◌, nat_lt, length}
use Rattle.psos_caps.specs.Capability.{Capability}
use Rattle.psos_words.specs.declared.word.Word.{Word}
use Rattle.psos_words.specs.Guard.{barred}
use Rattle.psos_calls.specs.declared.kind.Kind.TheVariants.{Process}
use Rattle.psos_calls.specs.declared.right.Right.TheVariants.{Send}
use Rattle.psos_calls.specs.declared.tab.Tab.TheVariants as tabs
use Rattle.psos_calls.specs.declared.refusal.Refusal.TheVariants.{Absent, Lacks, Guarded, Exhausted, Empty}
use Rattle.psos_calls.specs.Levels.Calls.{LevelCall}
use Rattle.psos_calls.specs.declared.level_call.LevelCall.TheVariants.{Post, Draw}
use Rattle.psos_calls.specs.Levels.Answers.{LevelAnswer}
use Rattle.psos_calls.specs.declared.level_answer.LevelAnswer.TheVariants.{Done, Got, No}
use Rattle.psos_calls.specs.Language.Rights.{has}
use Rattle.psos_calls.specs.Language.Tests.{if_none, if_holds}

-- the mailbox of the user with this number, among so many users, and its words, the first first
pub record Mailbox : Type 0 where
  pub number : ℕ
  pub users : ℕ
  pub words : List Word

-- the process of user i
abbrev pub process_of : ℕ → ℕ
process_of i = 3 + 4 * i

-- a word is posted to a capability
abbrev pub box_posted : ℕ → List Word → Capability → Word → List Word × LevelAnswer
box_posted process words to word =
    if_holds (to.uid == process) (words, No (Absent Process)) (
    if_holds (has to Send) (words, No (Lacks Send)) (
    if_none (barred 1 word) (λ b. (words, No (Guarded b))) (
    if_holds (nat_lt (length words) 8) (words, No (Exhausted tabs.Mailbox)) (
    (words ++ word ∷ [], Done)))))

-- the first word is drawn
abbrev pub box_drawn : List Word → List Word × LevelAnswer
box_drawn [] = ([], No Empty)
box_drawn (word ∷ rest) = (rest, Got word)

-- the words that a call leaves in the mailbox of a process, and its answer
abbrev pub act_box : ℕ → List Word → LevelCall → List Word × LevelAnswer
act_box process words (Post to word) = box_posted process words to word
act_box process words (Draw uid) = if_holds (uid.0 == process) (words, No Empty) (box_drawn words)
act_box process words _ = (words, Done)
