-- What a journal of several threads records: a replay in a legal order, under each lock by its own history. States docs/levels.md, "Locks" and "Journal".
use Rattle.std.specs.Prelude.{◌≡◌, ℕ, ◌<◌, ◌≤◌, ◌==◌, List, length, filter, slice_get, Some, IsTrue}
use Rattle.psos_limits.specs.declared.TheConstants.{MOST_REQUESTS}
use Rattle.psos_calls.specs.declared.lock_id.LockId.{LockId}
use Rattle.psos_calls.specs.declared.entry.Entry.{Entry}
use Rattle.psos_calls.specs.Language.Script.{Script, IsWellFormed}
use Rattle.psos_calls.specs.Language.User.{User}
use Rattle.psos_calls.specs.Levels.{Levels}
use Rattle.psos_calls.specs.Levels.Lists.{HasLists}
use Rattle.psos_calls.specs.Locks.Held.{is_lock}
use Rattle.psos_model.specs.Flat.{Flat}
use Rattle.psos_model.specs.Flat.Boot.{boot}
use Rattle.psos_model.specs.Run.{IsLegalFrom}
use Rattle.psos_model.specs.Replay.{System, boot_system, replay_from, entries_from, order_of, AreFaithful}
use Rattle.psos_model.specs.Events.Serial.{IsCoreStart}
use Rattle.psos_journal.specs.Members.{entries_of, named}
use Rattle.psos_histories.specs.Pieces.{Piece, HasOwners, piece_at, after_all}
use Rattle.psos_histories.specs.Histories.{only_in}
use Rattle.psos_histories.specs.Names.{member_of, AllNamed}

-- the users of the entries, in order
abbrev pub order_in : List (Entry × ℕ) → List ℕ
order_in log = order_of (entries_of log)

-- the replay of their order
abbrev pub replay_in : Script → System → List (Entry × ℕ) → System
replay_in s y log = replay_from s y (order_in log)

-- the entries are those of the replay of their order, which is legal, and each names whom it has to
pub record IsRecorded (s : Script) (y : System) (f : Flat) (log : List (Entry × ℕ)) : Type 0 where
  pub replayed : entries_of log ≡ entries_from s y (order_in log)
  pub legal : IsLegalFrom s f (order_in log)
  pub all_named : AllNamed (length s.users) log

-- what the history of a lock leaves under it: the calls of the entries that name its member, from what lay there at the start
abbrev pub left_by_history : Script → System → LockId → List Entry → Piece
left_by_history s y k entries = after_all (piece_at k y.levels) (only_in (length s.users) k entries)

-- ---- laws of what is recorded from a start

-- what lies under a lock after the replay is what its history leaves
abbrev pub HistoriesByLock : Type 0
HistoriesByLock = (s : Script) (y : System) (f : Flat) (log : List (Entry × ℕ)) → IsCoreStart s y f → IsRecorded s y f log
    → (k : LockId) → IsTrue (is_lock (length s.users) k)
    → piece_at k (replay_in s y log).levels ≡ left_by_history s y k (named (member_of (length s.users) k) log)

-- so levels in which each lock has what its history leaves are those of the replay, where only users have mailboxes
abbrev pub HistoriesAreReplay : Type 0
HistoriesAreReplay = (s : Script) (y : System) (f : Flat) (log : List (Entry × ℕ)) → IsCoreStart s y f → IsRecorded s y f log
    → (l : Levels) → HasOwners (length s.users) l
    → ((k : LockId) → IsTrue (is_lock (length s.users) k) → piece_at k l ≡ left_by_history s y k (named (member_of (length s.users) k) log))
    → l ≡ (replay_in s y log).levels

-- there are few entries
abbrev pub RecordsAreFew : Type 0
RecordsAreFew = (s : Script) (y : System) (f : Flat) (log : List (Entry × ℕ)) → IsCoreStart s y f → IsRecorded s y f log → length log ≤ MOST_REQUESTS

-- who has an own part after the replay is a user of the script
abbrev pub RecordsHaveUsers : Type 0
RecordsHaveUsers = (s : Script) (y : System) (f : Flat) (log : List (Entry × ℕ)) → IsCoreStart s y f → IsRecorded s y f log
    → (u : ℕ) (x : User) → slice_get (replay_in s y log).users u ≡ Some x → u < length s.users

-- in the levels of the replay the words of each live directory are an entry list
abbrev pub RecordsHaveLists : Type 0
RecordsHaveLists = (s : Script) (y : System) (f : Flat) (log : List (Entry × ℕ)) → IsCoreStart s y f → IsRecorded s y f log → HasLists (replay_in s y log).levels

-- the entries of a run from boot are faithful
abbrev pub RecordsAreFaithful : Type 0
RecordsAreFaithful = (s : Script) (log : List (Entry × ℕ)) → IsWellFormed s → IsRecorded s (boot_system s) (boot s) log → AreFaithful s (entries_of log)

-- the list of a user's member is that user's entries, in order
abbrev pub ListsAreUsers : Type 0
ListsAreUsers = (n u : ℕ) (log : List (Entry × ℕ)) → u < n → AllNamed n log → named u log ≡ filter (λ (e : Entry). e.user == u) (entries_of log)
