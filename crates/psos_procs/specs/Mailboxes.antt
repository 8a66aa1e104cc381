-- The mailboxes of all users as the state of level 12. States docs/levels.md, "Levels" and "Locks", and docs/system.md, "Boot".
use Rattle.std.specs.Prelude.{◌≡◌, ℕ, zero, suc, ◌+◌, ◌≤◌, List, [], ◌∷◌, length, slice_get, Some}
use Rattle.std.specs.FinMap.{empty}
use Rattle.psos_table.specs.Table.{put}
use Rattle.psos_words.specs.declared.word.Word.{Word}
use Rattle.psos_calls.specs.Levels.Calls.{LevelCall}
use Rattle.psos_calls.specs.Levels.Answers.{LevelAnswer}
use Rattle.psos_calls.specs.Levels.Level12.{BoxState, act12}
use Rattle.psos_calls.specs.Locks.{part_of}
use Rattle.psos_procs.specs.Mailbox.{Mailbox, process_of, act_box}

-- the table of mailboxes: under each process its words
abbrev pub boxes_of : List Mailbox → BoxState
boxes_of [] = empty
boxes_of (box ∷ rest) = put (boxes_of rest) (process_of box.number) box.words

-- an empty mailbox for each of n users, counted from i
unfoldable pub no_words : ℕ → ℕ → BoxState
no_words i zero = empty
no_words i (suc n) = put (no_words (i + 1) n) (process_of i) []

-- the mailboxes of so many users from number i on, in order, to the last
abbrev pub AreBoxesFrom : ℕ → ℕ → List Mailbox → Type 0
AreBoxesFrom users i [] = i ≡ users
AreBoxesFrom users i (box ∷ rest) = (box.number ≡ i) × (box.users ≡ users) × (length box.words ≤ 8) × AreBoxesFrom users (i + 1) rest

-- the mailboxes of one to eight users: all of them, in order
pub record AreMailboxes (boxes : List Mailbox) : Type 0 where
  pub some : 1 ≤ length boxes
  pub few : length boxes ≤ 8
  pub each : AreBoxesFrom (length boxes) 0 boxes

-- a level with the words of this mailbox, and an answer
abbrev pub with_words : BoxState → ℕ → List Word × LevelAnswer → BoxState × LevelAnswer
with_words boxes process left = (put boxes process left.0, left.1)

-- a call at level 12 is the call of the mailbox of its part
abbrev pub MailboxesAreParts : Type 0
MailboxesAreParts =
    (boxes : List Mailbox) (box : Mailbox) (call : LevelCall) → AreMailboxes boxes → slice_get boxes (part_of (length boxes) call) ≡ Some box
    → act12 (boxes_of boxes) call ≡ with_words (boxes_of boxes) (process_of box.number) (act_box (process_of box.number) box.words call)
