-- How a run of threads begins and ends. States docs/levels.md, "Locks", "Journal" and "Levels".
use Rattle.std.specs.Prelude.{◌≡◌, ℕ, ◌≤◌, true, false, List, length, slice_get, Option, None, Some, IfSome}
use Rattle.psos_io.specs.Causes.{Rose}
use Rattle.psos_limits.specs.declared.TheConstants.{MOST_REQUESTS}
use Rattle.psos_calls.specs.declared.entry.Entry.{Entry}
use Rattle.psos_calls.specs.Language.Script.{Script, IsWellFormed}
use Rattle.psos_model.specs.Flat.Boot.{boot}
use Rattle.psos_model.specs.Replay.{boot_system}
use Rattle.psos_journal.specs.declared.stop_cause.StopCause.{StopCause}
use Rattle.psos_journal.specs.declared.stop_cause.StopCause.TheVariants.{Store}
use Rattle.logbook.specs.Pages.{Book}
use Rattle.psos_journal.specs.Members.{entries_of, named}
use Rattle.psos_journal.specs.Views.{Ready, AreNamed, list_of}
use Rattle.psos_core.specs.declared.levels.Levels.{Levels}
use Rattle.psos_core.specs.declared.parts.Parts.{Parts}
use Rattle.psos_core.specs.System.{system_of}
use Rattle.psos_core.specs.Serving.{IsFrontFrom, IsWholeRun}
use Rattle.psos_histories.specs.Names.{members_for}
use Rattle.psos_histories.specs.Records.{replay_in}
use Rattle.psos_locks.specs.Runs.{IsRun}
use Rattle.psos_locks.specs.Users.{UserView, AreUsers, AreOver}

-- a journal that starts from this ground is called so, and has room for all requests and a member for each user and each lock
pub record IsGroundFor (s : Script) (ground : Ready) (book : Book) (counts : ℕ → ℕ) (told faults : ℕ) : Type 0 where
  pub called : AreNamed ground book counts told faults
  pub members_are : ground.members ≡ members_for (length s.users)
  pub room_is : ground.room ≡ MOST_REQUESTS

-- ---- what a run leaves

-- the levels are given where it was not stopped, and the store where it was; either has this count of faults
abbrev pub IsGiven : {B : Type 0} → (B → ℕ) → Option StopCause → Option (Levels B) → Option B → ℕ → Type 0
IsGiven {B} faults None levels store count = (store ≡ None) × (levels ≡ None → ⊥) × IfSome levels (λ (l : Levels B). faults l.pages.store ≡ count)
IsGiven {B} faults (Some cause) levels store count = (levels ≡ None) × (store ≡ None → ⊥) × IfSome store (λ (b : B). faults b ≡ count)

-- the count of the store's faults did not fall, and it rose where the run was stopped for the store
pub record CountsFaults (before now : ℕ) (stopped : Option StopCause) : Type 0 where
  pub later : before ≤ now
  pub rose : stopped ≡ Some Store → Rose before now

-- the entries are those of a run, from which each user's list, own part and the levels are; where it was not stopped, nobody is halted, and where a user was told, it was stopped for the store
pub record HasEnded {B : Type 0} (s : Script) (users : List UserView) (parts : Parts B) : Type 0 where
  pub log : List (Entry × ℕ)
  pub recorded : IsRun s log
  pub entries_are : parts.entries ≡ entries_of log
  pub lists : (i : ℕ) (u : UserView) → slice_get users i ≡ Some u → list_of u.who.side ≡ named i log
  pub own_parts : (i : ℕ) (u : UserView) → slice_get users i ≡ Some u → slice_get (replay_in s (boot_system s) log).users i ≡ Some u.who.own
  pub levels_are : IfSome parts.levels (λ (l : Levels B). system_of l ≡ replay_in s (boot_system s) log)
  pub told : (i : ℕ) (u : UserView) → slice_get users i ≡ Some u → u.who.side.told ≡ true → parts.stopped ≡ Some Store
  pub going : parts.stopped ≡ None → (i : ℕ) (u : UserView) → slice_get users i ≡ Some u → u.halted ≡ false

-- a run from boot to its end: in any order, where it was not stopped; and else the requests so far come in a legal order, and the entries are those of its replay and say what its run answers
pub record HasRun {B : Type 0} (s : Script) (parts : Parts B) : Type 0 where
  pub front : IsFrontFrom s (boot_system s) (boot s) parts.entries
  pub whole : IfSome parts.levels (λ (l : Levels B). IsWholeRun s (λ order. Unit {0}) parts.entries (system_of l))

-- so a run of threads is one from boot, where it has ended and all its users are through or one is halted
abbrev pub EndsAreRuns : {B : Type 0} → (B → ℕ) → Type 0
EndsAreRuns {B} faults = (s : Script) (users : List UserView) (parts : Parts B) → IsWellFormed s → AreUsers s users → AreOver s users → HasEnded s users parts
    → IsGiven faults parts.stopped parts.levels parts.store parts.store_faults → HasRun s parts
