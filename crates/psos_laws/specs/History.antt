-- The history of a run, the last request first, and the origins that it gives. States docs/promises.md, "Origins".
use Rattle.std.specs.Prelude.{◌≡◌, ◌≤◌, ℕ, ◌==◌, if◌then◌else◌, nat_le, List, [], ◌∷◌, length, slice_get, Option, Some, None}
use Rattle.std.specs.Option.{option_map}
use Rattle.psos_caps.specs.Capability.{Capability}
use Rattle.psos_calls.specs.declared.request.Request.{Request}
use Rattle.psos_calls.specs.Language.Script.{Script}
use Rattle.psos_calls.specs.Language.User.{User, next_request}
use Rattle.psos_calls.specs.Language.Tests.{if_there}
use Rattle.psos_model.specs.declared.place.Place.{Place}
use Rattle.psos_model.specs.Flat.{Flat}
use Rattle.psos_model.specs.Flat.Places.{cap_at}
use Rattle.psos_model.specs.Answer.Outcomes.{Source}
use Rattle.psos_model.specs.Answer.{outcome, answer}
use Rattle.psos_model.specs.Flat.Boot.{boot}
use Rattle.psos_laws.specs.declared.origin.Origin.{Origin}
use Rattle.psos_laws.specs.declared.way.Way.{Way}
use Rattle.psos_laws.specs.declared.way.Way.TheVariants.{Boot, Made, Copied}
use Rattle.psos_laws.specs.Landings.{Landing, found, landed, puts, before}
use Rattle.psos_laws.specs.Reads.{IsCopy}

-- a request of a run: the state before it, its user, what it put where, and where the word of each place lay before
pub record Transition : Type 0 where
  pub flat : Flat
  pub user : ℕ
  pub landings : List Landing
  pub moved : Place → Place

-- user u's next request; without one nothing moves
abbrev pub transition_by : Script → Flat → ℕ → User → Option Request → Transition
transition_by s f u x None = record { flat = f; user = u; landings = []; moved = λ p. p }
transition_by s f u x (Some request) = record { flat = f; user = u; landings = puts s f x request; moved = before (outcome f x request).changes }

abbrev pub transition_at : Script → Flat → ℕ → Transition
transition_at s f u =
    if_there (slice_get f.users u) (record { flat = f; user = u; landings = []; moved = λ p. p })
    (λ x. transition_by s f u x (next_request s x))

-- the requests of these users come before what is past
abbrev pub past_after : Script → Flat → List Transition → List ℕ → List Transition
past_after s f past [] = past
past_after s f past (u ∷ us) = past_after s (answer s f u).0 (transition_at s f u ∷ past) us

-- the history of an order from a start, and from boot
abbrev pub history_from : Script → Flat → List ℕ → List Transition
history_from s f order = past_after s f [] order

abbrev pub history : Script → List ℕ → List Transition
history s order = history_from s (boot s) order

-- the request with a stamp
abbrev pub entry_at : List Transition → ℕ → Option Transition
entry_at [] t = None
entry_at (e ∷ past) t = if t == length past then Some e else entry_at past t

-- ---- origins

-- an identifier that was new was made, whatever was read
abbrev pub way_by : ℕ → Capability → Option Source → Way
way_by next cap None = Made
way_by next cap (Some q) = if nat_le next cap.uid then Made else Copied q.place q.by

abbrev pub origin_by : ℕ → ℕ → Capability → Option Source → Origin
origin_by stamp next cap source = record { stamp = Some stamp; way = way_by next cap source }

-- the origin of a capability that lies at a place: the last request that put it there gave it, or the start
abbrev pub origin_of : List Transition → Place → Capability → Origin
origin_of [] p cap = record { stamp = None; way = Boot }
origin_of (e ∷ past) p cap = if_there (found e.landings p) (origin_of past (e.moved p) cap) (λ l. origin_by (length past) e.flat.next cap l.source)

-- the origin at a place, where it holds a capability
abbrev pub origin : List Transition → Flat → Place → Option Origin
origin past f p = option_map (origin_of past p) (cap_at f p)

-- ---- sound origins

-- where the word of a place lay at the start, if no request put one there
abbrev pub first_place : List Transition → Place → Place
first_place [] p = p
first_place (e ∷ past) p = first_place past (e.moved p)

-- a copy is one that the request's user could make then, what was made was new then, and what has no stamp lay there at the start
abbrev pub IsSoundWay : Flat → List Transition → Place → Capability → Option ℕ → Way → Type 0
IsSoundWay start past p cap (Some t) (Copied q by) = (e : Transition) × (entry_at past t ≡ Some e) × IsCopy e.flat e.user cap q by
IsSoundWay start past p cap (Some t) Made = (e : Transition) × (entry_at past t ≡ Some e) × (e.flat.next ≤ cap.uid)
IsSoundWay start past p cap None Boot = cap_at start (first_place past p) ≡ Some cap
IsSoundWay start past p cap _ _ = ⊥

-- each capability has a sound origin
abbrev pub AreSoundOrigins : Flat → List Transition → Flat → Type 0
AreSoundOrigins start past f = (p : Place) (cap : Capability) → cap_at f p ≡ Some cap → IsSoundWay start past p cap (origin_of past p cap).stamp (origin_of past p cap).way

-- ---- what landed

-- each capability after a request landed in it, or lay there before or moved up to there; so it is back to the start
abbrev pub HaveAllLanded : Flat → List Transition → Flat → Type 0
HaveAllLanded start [] f = f ≡ start
HaveAllLanded start (e ∷ past) f =
    ((p : Place) (cap : Capability) → cap_at f p ≡ Some cap → landed e.landings p (cap_at e.flat (e.moved p)) ≡ Some cap)
    × HaveAllLanded start past e.flat
