-- What a run of threads begins with, lock by lock and user by user. States docs/levels.md, "Locks" and "Journal".
use Rattle.std.specs.Prelude.{◌≡◌, ℕ, List, length, slice_get, Some, IsTrue}
use Rattle.psos_calls.specs.declared.entry.Entry.{Entry}
use Rattle.psos_calls.specs.declared.level.Level.TheVariants.{L12}
use Rattle.psos_calls.specs.declared.lock_id.LockId.{LockId}
use Rattle.psos_calls.specs.Language.Script.{Script}
use Rattle.psos_calls.specs.Language.User.{User}
use Rattle.psos_calls.specs.Locks.Held.{is_lock}
use Rattle.psos_model.specs.Replay.{boot_system}
use Rattle.psos_journal.specs.Views.{Side, new_side}
use Rattle.psos_procs.specs.Mailbox.{Mailbox}
use Rattle.psos_histories.specs.Pieces.{Piece, Box, piece_at}
use Rattle.psos_locks.specs.Users.{UserView, new_user}

-- the first members of a journal, in the order of their numbers, before the first entry
pub record AreInOrder (members : List (Side Entry)) : Type 0 where
  pub each : (i : ℕ) (m : Side Entry) → slice_get members i ≡ Some m → m ≡ new_side i

-- this is a lock of the script's users, and what lies under it is as at boot
pub record IsAtBoot (s : Script) (lock : LockId) (piece : Piece) : Type 0 where
  pub lock_is : IsTrue (is_lock (length s.users) lock)
  pub piece_is : piece ≡ piece_at lock (boot_system s).levels

-- the mailbox of user i of the script is as at boot
pub record IsBootBox (s : Script) (i : ℕ) (b : Mailbox) : Type 0 where
  pub users : b.users ≡ length s.users
  pub number : b.number ≡ i
  pub at_boot : IsAtBoot s (record { level = L12; part = b.number }) (Box b.number (Some b.words))

-- so are the mailboxes of the first users, in order
pub record AreBootBoxes (s : Script) (boxes : List Mailbox) : Type 0 where
  pub each : (i : ℕ) (b : Mailbox) → slice_get boxes i ≡ Some b → IsBootBox s i b

-- these are the own parts of the first users at boot, in order
pub record AreFirstParts (s : Script) (parts : List User) : Type 0 where
  pub each : (i : ℕ) (x : User) → slice_get parts i ≡ Some x → slice_get (boot_system s).users i ≡ Some x

-- these users, of so many, have these own parts, before the first entry
pub record AreNewWith (n : ℕ) (parts : List User) (users : List UserView) : Type 0 where
  pub count : length users ≡ length parts
  pub each : (i : ℕ) (x : User) → slice_get parts i ≡ Some x → slice_get users i ≡ Some (new_user n i x)
