-- What is kept of the requests of a run, and the origins that it tells. States docs/promises.md, "Origins".
use Rattle.std.specs.Prelude.{◌≡◌, ◌≤◌, ◌<◌, ◌*◌, ◌-◌, ℕ, ◌+◌, if◌then◌else◌, nat_lt, List, [], ◌∷◌, ◌++◌, length, reverse, slice_get, slice_set, slice_index_or, Option, Some, None}
use Rattle.psos_caps.specs.Capability.{Capability}
use Rattle.psos_words.specs.declared.word.Word.{Word}
use Rattle.psos_words.specs.Words.{word_at}
use Rattle.psos_calls.specs.declared.effect.Effect.{Effect}
use Rattle.psos_calls.specs.declared.effect.Effect.TheVariants.{Enter}
use Rattle.psos_calls.specs.declared.frame.Frame.{Frame}
use Rattle.psos_calls.specs.declared.request.Request.{Request}
use Rattle.psos_calls.specs.Language.Script.{Script}
use Rattle.psos_calls.specs.Language.Tests.{if_there}
use Rattle.psos_calls.specs.Language.User.{User, next_request, here}
use Rattle.psos_model.specs.declared.place.Place.{Place}
use Rattle.psos_model.specs.declared.place.Place.TheVariants.{FrameReg, BoxAt}
use Rattle.psos_model.specs.declared.change.Change.{Change}
use Rattle.psos_model.specs.declared.change.Change.TheVariants.{Draw}
use Rattle.psos_model.specs.Flat.{Flat}
use Rattle.psos_model.specs.Flat.Places.{same_place, reg_place, frame_at}
use Rattle.psos_model.specs.Answer.Outcomes.{Source, own}
use Rattle.psos_model.specs.Answer.{outcome}
use Rattle.psos_laws.specs.declared.arrival.Arrival as arrival
use Rattle.psos_laws.specs.declared.arrivals.Arrivals as arrivals
use Rattle.psos_laws.specs.declared.coming.Coming as coming
use Rattle.psos_laws.specs.declared.origins.Origins as origins
use Rattle.psos_laws.specs.declared.origin.Origin.{Origin}
use Rattle.psos_laws.specs.declared.way.Way.TheVariants.{Boot}
use Rattle.psos_laws.specs.Landings.{Landing, change_puts, effect_puts, before_change}
use Rattle.psos_laws.specs.History.{Transition, origin_of, origin_by}

-- a landing without its word
abbrev pub Arrival : Type 0
Arrival = arrival.Arrival

-- what one request put where, the first in front
abbrev pub Arrivals : Type 0
Arrivals = arrivals.Arrivals

-- ---- what lands

abbrev pub comes : Place → Option Source → Arrival
comes place source = record { place = place; source = source }

-- landings have the last in front, arrivals the first
abbrev pub came_by : List Landing → List Arrival
came_by [] = []
came_by (l ∷ rest) = came_by rest ++ comes l.place l.source ∷ []

-- what changes put, each as the state before all of them has it
abbrev pub came_in : Flat → Option Source → List Change → List Arrival
came_in f source [] = []
came_in f source (c ∷ rest) = came_by (change_puts f source c) ++ came_in f source rest

-- the source of the last that came to a place, or else what was found before
abbrev pub last_to : Option (Option Source) → List Arrival → Place → Option (Option Source)
last_to last [] p = last
last_to last (a ∷ rest) p = last_to (if same_place p a.place then Some a.source else last) rest p

-- where so many bodies were open, and this is the user's part after the ends of bodies
abbrev pub came_out : User → ℕ → List Arrival → List Arrival
came_out y opened ls =
    let inner = FrameReg y.number (opened - 1) 4 in
    if nat_lt (length y.frames) opened
    then comes (reg_place y y.frames 4) (if_there (last_to None ls inner) (own inner) (λ source. source)) ∷ []
    else []

-- ---- what is read off

-- the message at a place, before so many were drawn from its mailbox
abbrev pub raised : Place → ℕ → Place
raised (BoxAt u i) n = BoxAt u (i + n)
raised p n = p

abbrev pub moved_by : Option ℕ → Place → Place
moved_by None p = p
moved_by (Some b) p = before_change (Draw b) p

-- the mailbox that changes draw from
abbrev pub drawn_by : List Change → Option ℕ
drawn_by (Draw b ∷ rest) = Some b
drawn_by _ = None

-- the origin that requests tell, the last in front
abbrev pub told : List Arrivals → Place → Capability → Origin
told [] p cap = record { stamp = None; way = Boot }
told (a ∷ past) p cap = if_there (last_to None a.list.items p) (told past (moved_by a.drawn p) cap) (λ source. origin_by (length past) a.next cap source)

-- ---- what is known before a request is answered

-- how many bodies are open once the effect is made
abbrev pub opened_by : User → Effect → ℕ
opened_by x (Enter label link) = length x.frames + 1
opened_by x _ = length x.frames

-- what user u's next request will put where, but for the ends of bodies
pub record IsComing (s : Script) (f : Flat) (u : ℕ) (k : coming.Coming) : Type 0 where
  pub next : k.arrivals.next ≡ f.next
  pub list : (x : User) (r : Request) → slice_get f.users u ≡ Some x → next_request s x ≡ Some r
      → k.arrivals.list.items ≡ came_in f (outcome f x r).source (outcome f x r).changes ++ came_by (effect_puts x (outcome f x r).source (outcome f x r).effect)
  pub drawn : (x : User) (r : Request) → slice_get f.users u ≡ Some x → next_request s x ≡ Some r → k.arrivals.drawn ≡ drawn_by (outcome f x r).changes
  pub opened : (x : User) (r : Request) → slice_get f.users u ≡ Some x → next_request s x ≡ Some r → k.opened ≡ opened_by x (outcome f x r).effect
  pub bodies : (x : User) → slice_get f.users u ≡ Some x → k.bodies ≡ length x.frames
  pub caller : (x : User) → slice_get f.users u ≡ Some x → (i : ℕ) → i < 16 → word_at k.caller i ≡ word_at (here x) i

-- what is kept after the request, where y is its user's part after it
pub record AddsArrivals (k : coming.Coming) (u : ℕ) (y : User) (old new : origins.Origins) : Type 0 where
  pub last : Arrivals
  pub past : new.past.items ≡ old.past.items ++ last ∷ []
  pub next : last.next ≡ k.arrivals.next
  pub drawn : last.drawn ≡ k.arrivals.drawn
  pub list : last.list.items ≡ k.arrivals.list.items ++ came_out y k.opened k.arrivals.list.items
  pub outside : k.bodies ≡ 0 → new.callers.items ≡ old.callers.items
  pub inside : 0 < k.bodies → new.callers.items ≡ slice_set old.callers.items (4 * u + (k.bodies - 1)) k.caller

-- ---- what is kept

-- the registers of each open body but the innermost
abbrev pub AreCallers : List User → List (List Word) → Type 0
AreCallers users callers = (u depth : ℕ) (x : User) (q : Frame) → slice_get users u ≡ Some x → frame_at x.frames depth ≡ Some q → depth + 1 < length x.frames
    → (i : ℕ) → i < 16 → word_at (slice_index_or callers (4 * u + depth) []) i ≡ word_at q.regs i

-- each of at most eight users, and each of its at most four open bodies, has sixteen registers
pub record IsFull (x : User) : Type 0 where
  pub regs : length x.regs ≡ 16
  pub frames : (depth : ℕ) (q : Frame) → frame_at x.frames depth ≡ Some q → length q.regs ≡ 16
  pub few : length x.frames ≤ 4

pub record AreFull (users : List User) : Type 0 where
  pub few : length users ≤ 8
  pub each : (u : ℕ) (x : User) → slice_get users u ≡ Some x → IsFull x

-- it tells the origins of a history, in this state
pub record Tells (past : List Transition) (f : Flat) (o : origins.Origins) : Type 0 where
  pub count : length o.past.items ≡ length past
  pub origins : (p : Place) (cap : Capability) → told (reverse o.past.items) p cap ≡ origin_of past p cap
  pub room : length o.callers.items ≡ 32
  pub callers : AreCallers f.users o.callers.items
