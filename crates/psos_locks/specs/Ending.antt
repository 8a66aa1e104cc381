-- What a run of threads leaves, lock by lock and user by user. States docs/levels.md, "Locks" and "Journal".
use Rattle.std.specs.Prelude.{◌≡◌, ℕ, ◌<◌, ◌≤◌, true, false, List, length, slice_get, Option, Some, None}
use Rattle.psos_table.specs.Table.{at}
use Rattle.psos_calls.specs.declared.entry.Entry.{Entry}
use Rattle.psos_calls.specs.declared.level.Level.TheVariants.{L13, L12, L11, L10, L9, L8, L7, L0}
use Rattle.psos_calls.specs.declared.lock_id.LockId.{LockId}
use Rattle.psos_calls.specs.Language.Script.{Script}
use Rattle.psos_calls.specs.Levels.Level12.{BoxState}
use Rattle.psos_calls.specs.Locks.{box_of}
use Rattle.psos_model.specs.Replay.{System, boot_system}
use Rattle.psos_journal.specs.declared.stop_cause.StopCause.{StopCause}
use Rattle.psos_journal.specs.declared.stop_cause.StopCause.TheVariants.{Store}
use Rattle.psos_journal.specs.Members.{named}
use Rattle.psos_journal.specs.Views.{JournalState}
use Rattle.psos_procs.specs.Mailbox.{Mailbox, process_of}
use Rattle.psos_histories.specs.Pieces.{Piece, Codes, Box, Life, Dirs, Types, Segs, Slots, Next}
use Rattle.psos_histories.specs.Names.{member_of}
use Rattle.psos_histories.specs.Records.{left_by_history, replay_in}
use Rattle.psos_core.specs.declared.levels.Levels.{Levels}
use Rattle.psos_core.specs.System.{system_of}
use Rattle.psos_locks.specs.declared.left.Left.{Left}
use Rattle.psos_locks.specs.Grips.{level_lock}
use Rattle.psos_locks.specs.Runs.{IsOwn, Knows}
use Rattle.psos_locks.specs.Users.{UserView}

-- the run may have been stopped since; all else is as it was, and a first cause stays
pub record MayHaveStopped (old new : JournalState Entry) : Type 0 where
  pub rest : new ≡ record old { stopped = new.stopped }
  pub stays : (cause : StopCause) → old.stopped ≡ Some cause → new.stopped ≡ Some cause

-- ---- locks

-- what lies under a lock is what its history leaves, from boot
pub record IsLeft (s : Script) (log : List (Entry × ℕ)) (lock : LockId) (piece : Piece) : Type 0 where
  pub piece_is : piece ≡ left_by_history s (boot_system s) lock (named (member_of (length s.users) lock) log)

-- this is the mailbox of user i of the script
pub record IsBoxOf (s : Script) (i : ℕ) (b : Mailbox) : Type 0 where
  pub number : b.number ≡ i
  pub users : b.users ≡ length s.users
  pub few : length b.words ≤ 8

-- these are the mailboxes of so many users from the first on, in order, each as its history leaves it
pub record AreBoxesLeft (s : Script) (log : List (Entry × ℕ)) (count : ℕ) (boxes : List Mailbox) : Type 0 where
  pub all : length boxes ≡ count
  pub each : (i : ℕ) (b : Mailbox) → slice_get boxes i ≡ Some b → IsBoxOf s i b
  pub left : (i : ℕ) (b : Mailbox) → slice_get boxes i ≡ Some b → IsLeft s log (record { level = L12; part = i }) (Box i (Some b.words))

-- level 12 has a mailbox for each user and no other one, and each is as its history leaves it
pub record IsProcsLeft (s : Script) (log : List (Entry × ℕ)) (boxes : BoxState) : Type 0 where
  pub owners : (uid : ℕ) → (uid ≡ process_of (box_of (length s.users) uid) → ⊥) → at boxes uid ≡ None
  pub left : (i : ℕ) → i < length s.users → IsLeft s log (record { level = L12; part = i }) (Box i (at boxes (process_of i)))

-- ---- users

-- a user's own part is that of the entries that its member knows; these are the first ones, and all that name it are among them
pub record HasMetAll (s : Script) (log : List (Entry × ℕ)) (u : UserView) : Type 0 where
  pub own : IsOwn s u.who.side u.who.own
  pub knows : Knows u.who.side log

-- so it is of all these; where one was told, the run was stopped for the store, and where it was not stopped, nobody is halted
pub record HaveEndedIn (s : Script) (log : List (Entry × ℕ)) (stopped : Option StopCause) (users : List UserView) : Type 0 where
  pub each : (i : ℕ) (u : UserView) → slice_get users i ≡ Some u → HasMetAll s log u
  pub told : (i : ℕ) (u : UserView) → slice_get users i ≡ Some u → u.who.side.told ≡ true → stopped ≡ Some Store
  pub going : stopped ≡ None → (i : ℕ) (u : UserView) → slice_get users i ≡ Some u → u.halted ≡ false

-- ---- levels

-- levels but 12 with these mailboxes, and the users' own parts
abbrev pub system_with : {B : Type 0} → Left B → BoxState → System
system_with left boxes = record {
  levels = record {
    next = left.issuer;
    pages = left.pages.slots;
    segs = left.segs;
    types = left.types;
    dirs = left.dirs;
    life = left.life;
    boxes = boxes;
    codes = left.codes;
  };
  users = left.parts.value.items;
}

-- each of these levels is as its history leaves it, and the users' own parts are those of the replay
pub record IsEachLeft {B : Type 0} (s : Script) (log : List (Entry × ℕ)) (left : Left B) : Type 0 where
  pub codes : IsLeft s log (level_lock L13) (Codes left.codes)
  pub life : IsLeft s log (level_lock L11) (Life left.life)
  pub dirs : IsLeft s log (level_lock L10) (Dirs left.dirs)
  pub types : IsLeft s log (level_lock L9) (Types left.types)
  pub segs : IsLeft s log (level_lock L8) (Segs left.segs)
  pub pages : IsLeft s log (level_lock L7) (Slots left.pages.slots)
  pub issuer : IsLeft s log (level_lock L0) (Next left.issuer)
  pub users : left.parts.value.items ≡ (replay_in s (boot_system s) log).users

-- levels are given only of a run that was not stopped: these, with all mailboxes
pub record AreGiven {B : Type 0} (left : Left B) (procs : Option BoxState) (stopped : Option StopCause) (levels : Levels B) : Type 0 where
  pub going : stopped ≡ None
  pub boxes : BoxState
  pub boxes_are : procs ≡ Some boxes
  pub system : system_of levels ≡ system_with left boxes
