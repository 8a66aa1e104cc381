-- A serial run that is under way. States docs/promises.md, "Runs".
use Rattle.std.specs.Prelude.{◌≡◌, ℕ, zero, suc, ◌+◌, ◌<◌, ◌≤◌, ◌||◌, true, if◌then◌else◌, nat_lt, List, [], ◌∷◌, length, slice_get, slice_index_or, Option, Some, None, max}
use Rattle.psos_calls.specs.declared.request.Request.{Request}
use Rattle.psos_calls.specs.declared.entry.Entry.{Entry}
use Rattle.psos_calls.specs.Language.Script.{Script, UserScript, user_script}
use Rattle.psos_calls.specs.Language.User.{User, next_request}
use Rattle.psos_model.specs.Flat.{Flat}
use Rattle.psos_model.specs.Run.{phase_of, is_open}
use Rattle.psos_model.specs.Replay.{System, replay_from, entries_from, order_of}
use Rattle.psos_model.specs.Run.SerialOrder.{IsSerialFrom}

-- as many phases as the user with the most has
abbrev pub phases_most : List UserScript → ℕ
phases_most [] = 0
phases_most (user ∷ users) = max (length user.phases) (phases_most users)

-- how many requests stand before phase p
abbrev pub asked_before : List (List Request) → ℕ → ℕ
asked_before phases zero = 0
asked_before [] (suc p) = 0
asked_before (phase ∷ later) (suc p) = length phase + asked_before later p

-- so many requests of each user stand before phase p, and of the users before u before the phase after it
pub record AreCounted (s : Script) (p u : ℕ) (counts : List ℕ) : Type 0 where
  pub behind : (v : ℕ) → v < u → v < length s.users → slice_index_or counts v 0 ≡ asked_before (user_script s v).phases (p + 1)
  pub ahead : (v : ℕ) → u ≤ v → v < length s.users → slice_index_or counts v 0 ≡ asked_before (user_script s v).phases p

-- what a user asks next, where a body is open, or not so many of its script requests are answered
abbrev pub due : Script → User → ℕ → Option Request
due s x count = if is_open x.frames || nat_lt x.answered count then next_request s x else None

-- ---- where the run stands

-- it is phase p, or a later one, or none
abbrev pub AtLeast : ℕ → Option ℕ → Type 0
AtLeast p None = Unit {0}
AtLeast p (Some q) = p ≤ q

-- a user with no open body, and nothing left of the phases before p
pub record IsPast (s : Script) (p : ℕ) (x : User) : Type 0 where
  pub closed : x.frames ≡ []
  pub phase : AtLeast p (phase_of s x)

-- a user with nothing left of the phases before p; an open body is in phase p
pub record IsWithin (s : Script) (p : ℕ) (x : User) : Type 0 where
  pub opened : is_open x.frames ≡ true → phase_of s x ≡ Some p
  pub phase : AtLeast p (phase_of s x)

-- the phases before p are served, of phase p the users before u, and user u in part
pub record IsAt (s : Script) (users : List User) (p u : ℕ) : Type 0 where
  pub before : (v : ℕ) (x : User) → v < u → slice_get users v ≡ Some x → IsPast s (p + 1) x
  pub here : (x : User) → slice_get users u ≡ Some x → IsWithin s p x
  pub behind : (v : ℕ) (x : User) → u < v → slice_get users v ≡ Some x → IsPast s p x

-- from a start: the levels and the entries are those of the replay of the order so far, which is serial, and this is where it stands
pub record HasServed (s : Script) (y : System) (f : Flat) (now : System) (entries : List Entry) (p u : ℕ) : Type 0 where
  pub replayed : now ≡ replay_from s y (order_of entries)
  pub recorded : entries ≡ entries_from s y (order_of entries)
  pub serial : IsSerialFrom s f (order_of entries)
  pub place : IsAt s now.users p u
