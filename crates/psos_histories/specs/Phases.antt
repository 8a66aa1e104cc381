-- Who has a request left, as the phases of a run go by. States docs/promises.md, "Runs", and docs/levels.md, "Phases".
use Rattle.std.specs.Prelude.{◌≡◌, ℕ, ◌≤◌, true, false, List, slice_get, Some, ◌⊎◌, None}
use mathlib.Core.List.{IsPrefix}
use Rattle.psos_calls.specs.declared.entry.Entry.{Entry}
use Rattle.psos_calls.specs.Language.Script.{Script}
use Rattle.psos_calls.specs.Language.User.{User}
use Rattle.psos_model.specs.Run.{phase_of, is_open, has_left}
use Rattle.psos_model.specs.Replay.{System, replay_from}
use Rattle.psos_histories.specs.Records.{replay_in}

-- user v, if there is one, asks nothing more of the phases before p
abbrev pub IsPast : Script → ℕ → ℕ → List User → Type 0
IsPast s p v users = (x : User) → slice_get users v ≡ Some x → (q : ℕ) → phase_of s x ≡ Some q → p ≤ q

-- it stays so in each replay
abbrev pub PastStays : Type 0
PastStays = (s : Script) (y : System) (p v : ℕ) (order : List ℕ) → IsPast s p v y.users → IsPast s p v (replay_from s y order).users

-- after a front of these entries, which a receipt knows, user v asks nothing more of the phases before p
pub record KnowsPast (s : Script) (y : System) (p v : ℕ) (log : List (Entry × ℕ)) : Type 0 where
  pub past : List (Entry × ℕ)
  pub prefix : IsPrefix past log
  pub is_past : IsPast s p v (replay_in s y past).users

-- user u has a request left where it has an open body or asks something of phase p, and all others are known to be past the phases before p
abbrev pub LeftInPhase : Type 0
LeftInPhase = (s : Script) (y : System) (u : ℕ) (x : User) (p : ℕ) (log : List (Entry × ℕ)) → slice_get (replay_in s y log).users u ≡ Some x
    → (is_open x.frames ≡ true) ⊎ (phase_of s x ≡ Some p)
    → ((v : ℕ) → (v ≡ u → ⊥) → KnowsPast s y p v log) → has_left s (replay_in s y log).users u ≡ true

-- where no user has an open body or asks anything more, nobody has a request left
abbrev pub NobodyHasLeft : Type 0
NobodyHasLeft = (s : Script) (users : List User) → ((v : ℕ) (x : User) → slice_get users v ≡ Some x → (is_open x.frames ≡ false) × (phase_of s x ≡ None))
    → (u : ℕ) → has_left s users u ≡ false
