-- What lies under one lock is a machine of its own. States docs/levels.md, "Locks".
use Rattle.std.specs.Prelude.{◌≡◌, ℕ, ◌-◌, ◌^◌, ◌<◌, false, List, [], ◌∷◌, Option, Some, None, IsSome, IsTrue}
use Rattle.psos_table.specs.Table.{at}
use Rattle.psos_words.specs.declared.word.Word.{Word}
use Rattle.psos_calls.specs.declared.kind.Kind.TheVariants.{Process}
use Rattle.psos_calls.specs.declared.refusal.Refusal.TheVariants.{Absent, Empty}
use Rattle.psos_calls.specs.declared.level.Level.{Level}
use Rattle.psos_calls.specs.declared.level.Level.TheVariants.{L13, L12, L11, L10, L9, L8, L7, L0}
use Rattle.psos_calls.specs.declared.lock_id.LockId.{LockId}
use Rattle.psos_calls.specs.Levels.Calls.{LevelCall}
use Rattle.psos_calls.specs.declared.level_call.LevelCall.TheVariants.{Post, Draw}
use Rattle.psos_calls.specs.Levels.Answers.{LevelAnswer}
use Rattle.psos_calls.specs.declared.level_answer.LevelAnswer.TheVariants.{Done, No}
use Rattle.psos_calls.specs.Levels.Level7.{Pages, act7, Can7}
use Rattle.psos_calls.specs.Levels.Level8.{SegState, act8, Can8}
use Rattle.psos_calls.specs.Levels.Level9.{TypeState, act9, Can9}
use Rattle.psos_calls.specs.Levels.Level10.{DirState, act10, Can10}
use Rattle.psos_calls.specs.Levels.Level11.{LifeState, act11, Can11}
use Rattle.psos_calls.specs.Levels.Level13.{CodeState, act13, Can13}
use Rattle.psos_calls.specs.Levels.{Levels, act0, act}
use Rattle.psos_calls.specs.Locks.{box_of, lock_of}
use Rattle.psos_calls.specs.Locks.Held.{is_lock, same_lock}
use Rattle.psos_model.specs.Flat.Boot.{process_of}
use Rattle.psos_procs.specs.Mailbox.{act_box}

-- what lies under a lock: the state of a level, or the mailbox of a user by its number, with its words if there is one
pub data Piece : Type 0 where
  Codes : CodeState → Piece
  Box : ℕ → Option (List Word) → Piece
  Life : LifeState → Piece
  Dirs : DirState → Piece
  Types : TypeState → Piece
  Segs : SegState → Piece
  Slots : Pages → Piece
  Next : ℕ → Piece

-- of all levels
abbrev pub piece_in : Level → ℕ → Levels → Piece
piece_in L13 part l = Codes l.codes
piece_in L12 part l = Box part (at l.boxes (process_of part))
piece_in L11 part l = Life l.life
piece_in L10 part l = Dirs l.dirs
piece_in L9 part l = Types l.types
piece_in L8 part l = Segs l.segs
piece_in L7 part l = Slots l.pages
piece_in L0 part l = Next l.next

abbrev pub piece_at : LockId → Levels → Piece
piece_at k l = piece_in k.level k.part l

-- no process has a mailbox but those of so many users
pub record HasOwners (n : ℕ) (l : Levels) : Type 0 where
  pub none : (uid : ℕ) → (uid ≡ process_of (box_of n uid) → ⊥) → at l.boxes uid ≡ None

-- ---- calls

-- what is answered where there is no mailbox
abbrev pub no_box : LevelCall → LevelAnswer
no_box (Post to word) = No (Absent Process)
no_box (Draw uid) = No Empty
no_box _ = Done

-- a call of the mailbox of a user, if there is one
abbrev pub act_if_box : ℕ → Option (List Word) → LevelCall → Piece × LevelAnswer
act_if_box part None call = (Box part None, no_box call)
act_if_box part (Some words) call = (Box part (Some (act_box (process_of part) words call).0), (act_box (process_of part) words call).1)

-- what a call leaves, and answers
abbrev pub act_piece : Piece → LevelCall → Piece × LevelAnswer
act_piece (Codes c) call = (Codes (act13 c call).0, (act13 c call).1)
act_piece (Box part box) call = act_if_box part box call
act_piece (Life c) call = (Life (act11 c call).0, (act11 c call).1)
act_piece (Dirs c) call = (Dirs (act10 c call).0, (act10 c call).1)
act_piece (Types c) call = (Types (act9 c call).0, (act9 c call).1)
act_piece (Segs c) call = (Segs (act8 c call).0, (act8 c call).1)
act_piece (Slots c) call = (Slots (act7 c call).0, (act7 c call).1)
act_piece (Next n) call = (Next (act0 n call).0, (act0 n call).1)

-- after these calls
abbrev pub after_all : Piece → List LevelCall → Piece
after_all p [] = p
after_all p (call ∷ calls) = after_all (act_piece p call).0 calls

-- a word is drawn from a mailbox that is there
abbrev pub can_box : Option (List Word) → LevelCall → Type 0
can_box box (Draw uid) = IsSome box
can_box box _ = Unit {0}

-- the condition of a call, where it goes to this piece
abbrev pub can_piece : Piece → LevelCall → Type 0
can_piece (Codes c) call = Can13 c call
can_piece (Box part box) call = can_box box call
can_piece (Life c) call = Can11 c call
can_piece (Dirs c) call = Can10 c call
can_piece (Types c) call = Can9 c call
can_piece (Segs c) call = Can8 c call
can_piece (Slots c) call = Can7 c call
can_piece (Next n) call = n < 2 ^ 64 - 1

-- ---- laws

-- a call is the call of what lies under its lock, and leaves what lies under any other
pub record IsOfPiece (n : ℕ) (l : Levels) (call : LevelCall) : Type 0 where
  pub piece : piece_at (lock_of n call) (act l call).0 ≡ (act_piece (piece_at (lock_of n call) l) call).0
  pub answer : (act l call).1 ≡ (act_piece (piece_at (lock_of n call) l) call).1
  pub others : (k : LockId) → IsTrue (is_lock n k) → same_lock k (lock_of n call) ≡ false → piece_at k (act l call).0 ≡ piece_at k l

-- so it is of every call, where only users have mailboxes
abbrev pub CallsAreOfPieces : Type 0
CallsAreOfPieces = (n : ℕ) (l : Levels) (call : LevelCall) → 0 < n → HasOwners n l → IsOfPiece n l call

-- levels with the same under each lock are the same, where only users have mailboxes
abbrev pub PiecesAreAll : Type 0
PiecesAreAll = (n : ℕ) (a b : Levels) → 0 < n → HasOwners n a → HasOwners n b
    → ((k : LockId) → IsTrue (is_lock n k) → piece_at k a ≡ piece_at k b) → a ≡ b
