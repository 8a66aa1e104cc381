-- What the core has done is a replay of its closed requests, one after another. States docs/levels.md, "Locks".
use Rattle.std.specs.Prelude.{◌≡◌, ℕ, true, List, [], ◌∷◌, length, slice_get, Some, IsTrue}
use Rattle.psos_table.specs.Table.{at}
use Rattle.psos_calls.specs.declared.level.Level.{Level}
use Rattle.psos_calls.specs.declared.level.Level.TheVariants.{L13, L12, L11, L10, L9, L8, L7, L0}
use Rattle.psos_calls.specs.declared.lock_id.LockId.{LockId}
use Rattle.psos_calls.specs.declared.request.Request.{Request}
use Rattle.psos_calls.specs.declared.step.Step.{Step}
use Rattle.psos_calls.specs.Language.Script.{Script, IsWellFormed}
use Rattle.psos_calls.specs.Language.User.{User, next_request}
use Rattle.psos_calls.specs.Levels.{Levels, act}
use Rattle.psos_calls.specs.Locks.Held.{is_lock, is_held, is_free}
use Rattle.psos_calls.specs.Plan.Requests.{plan_of}
use Rattle.psos_calls.specs.Plan.Trace.{IsTraceOf}
use Rattle.psos_model.specs.Flat.{Flat}
use Rattle.psos_model.specs.Flat.Boot.{process_of}
use Rattle.psos_model.specs.Run.{has_left, IsLegalFrom}
use Rattle.psos_model.specs.Replay.{System, replay_from, entries_from, order_of}
use Rattle.psos_model.specs.Replay.StandsFor.{StandsFor}
use Rattle.psos_model.specs.Sound.{IsStart}
use Rattle.psos_model.specs.Events.{CoreState, core_of, core_after, AreEnabled, is_enabled, locks_of, trace_of}

-- what lies under a lock is the same
abbrev pub SameAt : Level → ℕ → Levels → Levels → Type 0
SameAt L13 part a b = a.codes ≡ b.codes
SameAt L12 part a b = at a.boxes (process_of part) ≡ at b.boxes (process_of part)
SameAt L11 part a b = a.life ≡ b.life
SameAt L10 part a b = a.dirs ≡ b.dirs
SameAt L9 part a b = a.types ≡ b.types
SameAt L8 part a b = a.segs ≡ b.segs
SameAt L7 part a b = a.pages ≡ b.pages
SameAt L0 part a b = a.next ≡ b.next

-- the levels after the calls of a trace
abbrev pub traced : Levels → List Step → Levels
traced l [] = l
traced l (t ∷ trace) = traced (act l t.call).0 trace

-- the replay of the requests that closed, from the start
abbrev pub committed : Script → System → CoreState → System
committed s y c = replay_from s y (order_of c.entries)

-- the entries and the users' parts are the replay's, each open trace is the front of a run from its levels, and the rest is not touched
pub record IsSerial (s : Script) (y : System) (c : CoreState) : Type 0 where
  pub entries : c.entries ≡ entries_from s y (order_of c.entries)
  pub users : c.users ≡ (committed s y c).users
  pub traces : (u : ℕ) (x : User) (request : Request) → slice_get c.users u ≡ Some x → next_request s x ≡ Some request
      → IsTraceOf (plan_of x request) (committed s y c).levels (trace_of c u)
  pub free : (k : LockId) → IsTrue (is_lock (length s.users) k) → is_free c.held k ≡ true → SameAt k.level k.part c.levels (committed s y c).levels
  pub own : (u : ℕ) (k : LockId) → is_held (locks_of c u) k ≡ true → SameAt k.level k.part c.levels (traced (committed s y c).levels (trace_of c u))

-- levels and users from which a script can run: they stand for a start
pub record IsCoreStart (s : Script) (y : System) (f : Flat) : Type 0 where
  pub well_formed : IsWellFormed s
  pub start : IsStart s f
  pub stands : StandsFor y f

-- after any events the core is serial, and the order of its closes is legal
abbrev pub EventsAreSerial : Type 0
EventsAreSerial = (s : Script) (y : System) (f : Flat) (us : List ℕ) → IsCoreStart s y f → AreEnabled s (core_of y) us
    → IsSerial s y (core_after s (core_of y) us) × IsLegalFrom s f (order_of (core_after s (core_of y) us).entries)

-- while a user has a request left, some user's event is enabled
abbrev pub NeverStuck : Type 0
NeverStuck = (s : Script) (y : System) (f : Flat) (us : List ℕ) → IsCoreStart s y f → AreEnabled s (core_of y) us
    → (u : ℕ) → has_left s (core_after s (core_of y) us).users u ≡ true → (v : ℕ) × IsTrue (is_enabled s (core_after s (core_of y) us) v)
