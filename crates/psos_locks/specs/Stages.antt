-- How far the users of a run of threads are, from one phase to the next. States docs/levels.md, "Phases".
use Rattle.std.specs.Prelude.{◌≡◌, ℕ, ◌+◌, ◌-◌, ◌<◌, ◌⊎◌, ◌&&◌, not, Bool, true, false, List, [], ◌∷◌, length, slice_get, slice_set, Some}
use Rattle.psos_calls.specs.Language.Script.{Script}
use Rattle.psos_model.specs.Run.{is_open}
use Rattle.psos_locks.specs.Users.{UserView, AreUsers, IsAhead, HasMet, has_more}

-- ---- a phase

-- before phase p: it was served in all before, and asks nothing more of them
pub record IsServed (s : Script) (p : ℕ) (u : UserView) : Type 0 where
  pub going : u.halted ≡ false
  pub served : u.served ≡ p
  pub phase : u.who.phase ≡ p - 1
  pub closed : is_open u.who.own.frames ≡ false
  pub ahead : IsAhead s u.who
  pub through : 0 < p → has_more s u.who ≡ false

-- so are all these users
pub record AreServed (s : Script) (p : ℕ) (users : List UserView) : Type 0 where
  pub are_users : AreUsers s users
  pub each : (i : ℕ) (u : UserView) → slice_get users i ≡ Some u → IsServed s p u

-- it is in phase p
pub record IsBefore (p : ℕ) (u : UserView) : Type 0 where
  pub going : u.halted ≡ false
  pub served : u.served ≡ p
  pub phase : u.who.phase ≡ p

-- so are all these users
pub record AreBefore (s : Script) (p : ℕ) (users : List UserView) : Type 0 where
  pub are_users : AreUsers s users
  pub each : (i : ℕ) (u : UserView) → slice_get users i ≡ Some u → IsBefore p u

-- nobody is halted
abbrev pub are_going : List UserView → Bool
are_going [] = true
are_going (u ∷ users) = not u.halted && are_going users

-- ---- on the way to the next phase

-- user w is there, or it asks nothing more of the phase before
pub record IsOnWay (s : Script) (next w : ℕ) (u : UserView) : Type 0 where
  pub number : u.who.side.number ≡ w
  pub room : length u.who.receipts ≡ length s.users
  pub stage : ((u.who.phase + 1 ≡ next) × (has_more s u.who ≡ false)) ⊎ (u.who.phase ≡ next)

-- so are all these users, and user i is not there
pub record CanMeet (s : Script) (next : ℕ) (users : List UserView) (i : ℕ) : Type 0 where
  pub all : length users ≡ length s.users
  pub each : (w : ℕ) (u : UserView) → slice_get users w ≡ Some u → IsOnWay s next w u
  pub here : (u : UserView) → slice_get users i ≡ Some u → u.who.phase + 1 ≡ next

-- user i has met all of them, and nothing else is changed
pub record HasMetAll (old : List UserView) (i : ℕ) (new : List UserView) : Type 0 where
  pub before : UserView
  pub after : UserView
  pub there : slice_get old i ≡ Some before
  pub changed : new ≡ slice_set old i after
  pub met : HasMet old before.who after.who
  pub halted : after.halted ≡ before.halted
  pub served : after.served ≡ before.served
