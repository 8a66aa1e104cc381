-- What a user of a run of threads knows, and what a look at the journal shows. States docs/levels.md, "Journal".
use Rattle.std.specs.Prelude.{◌≡◌, ℕ, ◌<◌, ◌^◌, ◌+◌, List, [], ◌∷◌, ◌++◌, length, slice_get, Option, None, Some}
use Rattle.std.specs.Int.{bit_at}
use Rattle.std.specs.Int.Bits.{bit_xor}
use mathlib.Core.List.{IsPrefix}
use Rattle.psos_calls.specs.declared.entry.Entry.{Entry}
use Rattle.psos_calls.specs.declared.request.Request.{Request}
use Rattle.psos_calls.specs.declared.step.Step.{Step}
use Rattle.psos_calls.specs.Language.Script.{Script}
use Rattle.psos_calls.specs.Language.User.{User}
use Rattle.psos_calls.specs.declared.level.Level.{Level}
use Rattle.psos_calls.specs.Levels.{level_of}
use Rattle.psos_calls.specs.Levels.Calls.{LevelCall}
use Rattle.psos_calls.specs.Levels.Answers.{LevelAnswer}
use Rattle.psos_calls.specs.Plan.{Plan, Ask, Close}
use Rattle.psos_calls.specs.Plan.Trace.{followed}
use Rattle.psos_core.specs.declared.perform.Closing.{Closing}
use Rattle.psos_calls.specs.Plan.Requests.{plan_of}
use Rattle.psos_model.specs.Flat.Boot.{boot}
use Rattle.psos_model.specs.Replay.{boot_system}
use Rattle.psos_journal.specs.Members.{named}
use Rattle.psos_journal.specs.Views.{JournalState, Side, list_of}
use Rattle.psos_limits.specs.declared.TheConstants.{MOST_REQUESTS}
use Rattle.psos_histories.specs.Names.{members_for}
use Rattle.psos_histories.specs.Records.{replay_in, IsRecorded}
use Rattle.psos_histories.specs.Grips.{Grip, HaveMet}
use Rattle.psos_histories.specs.Requests.{IsWorking}
use Rattle.psos_locks.specs.Places.{left_by, MaySettle}

-- entries of a run of this script from boot
abbrev pub IsRun : Script → List (Entry × ℕ) → Type 0
IsRun s log = IsRecorded s (boot_system s) (boot s) log

-- a journal between two closes: no pen is open, its entries are of a run, and it has room for all requests and a member for each user and each lock
pub record IsBook (s : Script) (j : JournalState Entry) : Type 0 where
  pub spent : j.left ≡ None
  pub recorded : IsRun s j.entries
  pub room_is : j.room ≡ MOST_REQUESTS
  pub members_are : j.members ≡ members_for (length s.users)

-- the entries that a user's member knows are of a run, and leave this as the user's own part; where none names the member, it knows none
pub record IsOwn (s : Script) (side : Side Entry) (x : User) : Type 0 where
  pub recorded : IsRun s side.past
  pub here : slice_get (replay_in s (boot_system s) side.past).users side.number ≡ Some x
  pub latest : list_of side ≡ [] → side.past ≡ []

-- the entries that a member knows are the first of these, and it has all that name it
pub record Knows (side : Side Entry) (log : List (Entry × ℕ)) : Type 0 where
  pub prefix : IsPrefix side.past log
  pub met : list_of side ≡ named side.number log

-- the journal was looked at: its entries are of a run, and the user's member and those of its locks have met them
pub record HasLooked (s : Script) (side : Side Entry) (grips : List Grip) : Type 0 where
  pub log : List (Entry × ℕ)
  pub recorded : IsRun s log
  pub knows : Knows side log
  pub met : HaveMet log grips

-- the user's request is at work, and the journal had entries that the user's member knows when it last looked
pub record InWork (s : Script) (side : Side Entry) (x : User) (request : Request) (grips : List Grip) (trace : List Step) : Type 0 where
  pub log : List (Entry × ℕ)
  pub knows : Knows side log
  pub working : IsWorking s (boot_system s) (boot s) side.number x (plan_of x request) grips trace log

-- ---- the close

-- an entry that names user u and the locks of these places may go into the journal: there is room, the names are members, it is recorded behind the others, and each lock has with it what its history leaves
pub record CanPut (s : Script) (j : JournalState Entry) (u : ℕ) (entry : Entry) (names : ℕ) (places : List (Option Grip)) : Type 0 where
  pub room : length j.entries < j.room
  pub members : names < 2 ^ j.members
  pub recorded : IsRun s (j.entries ++ (entry, names) ∷ [])
  pub named : bit_at (left_by places names) u ≡ 1
  pub only : bit_xor (left_by places names) (2 ^ u) ≡ 0
  pub ready : MaySettle s (j.entries ++ (entry, names) ∷ []) places names

-- the entry came last, at this stamp, in a journal that was not stopped, and the member knows it
pub record HasPut (old : JournalState Entry) (side : Side Entry) (entry : Entry) (names stamp : ℕ) (new : JournalState Entry) (after : Side Entry) : Type 0 where
  pub going : old.stopped ≡ None
  pub journal : new ≡ record old { entries = old.entries ++ (entry, names) ∷ [] }
  pub member : after ≡ record side { past = old.entries ++ (entry, names) ∷ [] }
  pub last : stamp ≡ length old.entries

-- the plan asks for this call, which is of this level
pub record AsksFor (plan : Plan) (level : Level) (call : LevelCall) : Type 0 where
  pub go : LevelAnswer → Plan
  pub is : plan ≡ Ask call go
  pub level_is : level_of call ≡ level

-- one call more was made, or the plan closes so
abbrev pub HasStepped : Plan → List Step → List Step → Option Closing → Type 0
HasStepped plan old new None = length new ≡ length old + 1
HasStepped plan old new (Some closing) = followed plan new ≡ Close closing.reply closing.effect
