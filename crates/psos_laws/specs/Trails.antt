-- Capabilities without bit 0 stay with one user. States docs/promises.md, "Held back, confined".
use Rattle.std.specs.Prelude.{◌≡◌, ◌≤◌, ◌<◌, ℕ, true, false, nat_le, List, [], ◌∷◌, slice_get, Option, Some, None}
use Rattle.psos_caps.specs.Capability.{Capability}
use Rattle.psos_words.specs.Guard.{has_bit}
use Rattle.psos_model.specs.declared.place.Place.{Place}
use Rattle.psos_model.specs.Flat.{Flat}
use Rattle.psos_model.specs.Flat.Places.{cap_at, is_own}
use Rattle.psos_model.specs.Answer.Outcomes.{Source}
use Rattle.psos_laws.specs.Landings.{found}
use Rattle.psos_laws.specs.When.{WhenFound, WhenTrue}
use Rattle.psos_laws.specs.History.{Transition}

-- a place, and the capability that it held
pub record Held : Type 0 where
  pub place : Place
  pub cap : Capability

abbrev pub holds : Place → Capability → Held
holds p cap = record { place = p; cap = cap }

-- one step back to the place that was read, which held a capability with this identifier, and on from there; what is new was read nowhere
abbrev pub WalkBy : Flat → Capability → Option Source → (Place → Capability → List Held → Type 0) → List Held → Type 0
WalkBy f cap None on way = way ≡ []
WalkBy f cap (Some q) on way =
    WhenTrue (nat_le f.next cap.uid) (way ≡ [])
    ((old : Capability) × (rest : List Held) × (cap_at f q.place ≡ Some old) × (old.uid ≡ cap.uid) × on q.place old rest × (way ≡ holds q.place old ∷ rest))

-- the way back from a place: where its capability was copied from, and that one, and so on to what was made or lay there at the start
abbrev pub IsWalk : List Transition → Place → Capability → List Held → Type 0
IsWalk [] p cap way = way ≡ []
IsWalk (e ∷ past) p cap way = WhenFound (found e.landings p) (IsWalk past (e.moved p) cap way) (λ l. WalkBy e.flat cap l.source (IsWalk past) way)

-- where one on the way lacks bit 0, all places up to it are private places of one user
abbrev pub AreHeldBack : List Held → Type 0
AreHeldBack way = (i : ℕ) (h : Held) → slice_get way i ≡ Some h → has_bit h.cap.rights 0 ≡ false
    → (u : ℕ) × ((j : ℕ) (k : Held) → j ≤ i → slice_get way j ≡ Some k → is_own k.place u ≡ true)

-- there is a way back from each place that holds a capability, and so it is on it
abbrev pub IsHeldBack : List Transition → Flat → Type 0
IsHeldBack past f = (p : Place) (cap : Capability) → cap_at f p ≡ Some cap → (way : List Held) × IsWalk past p cap way × AreHeldBack (holds p cap ∷ way)

-- each capability on x with a right of m lacks bit 0 and lies at a private place of user u; and x is no new identifier
pub record IsConfined (f : Flat) (u x m : ℕ) : Type 0 where
  pub below : x < f.next
  pub kept : (p : Place) (cap : Capability) → cap_at f p ≡ Some cap → cap.uid ≡ x
      → (bit : ℕ) → has_bit m bit ≡ true → has_bit cap.rights bit ≡ true → (is_own p u ≡ true) × (has_bit cap.rights 0 ≡ false)
