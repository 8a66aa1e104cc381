-- What holds at every point of a run. States docs/promises.md, "Origins", "Guarded, kept, sealed" and "Held back, confined".
use Rattle.std.specs.Prelude.{◌≡◌, ◌≤◌, ◌^◌, ℕ, List, [], ◌∷◌, ◌++◌, slice_get, Some, None}
use Rattle.psos_caps.specs.Capability.{Capability}
use Rattle.psos_caps.specs.declared.rights.Rights.{Rights}
use Rattle.psos_words.specs.declared.word.Word.TheVariants.{Cap}
use Rattle.psos_calls.specs.declared.request.Request.TheVariants.{Restrict}
use Rattle.psos_calls.specs.declared.right.Right.TheVariants.{Send}
use Rattle.psos_calls.specs.Language.Rights.{bit_of}
use Rattle.psos_calls.specs.Language.Script.{Script, IsWellFormed, requests_of, user_script}
use Rattle.psos_model.specs.declared.place.Place.{Place}
use Rattle.psos_model.specs.Flat.{Flat}
use Rattle.psos_model.specs.Flat.Places.{cap_in, cap_at}
use Rattle.psos_model.specs.Answer.{answer}
use Rattle.psos_model.specs.Flat.Boot.{process_of}
use Rattle.psos_model.specs.Run.{run_from, run}
use Rattle.psos_model.specs.Sound.Guarded.{IsGuarded}
use Rattle.psos_model.specs.Sound.{IsSound}
use Rattle.psos_laws.specs.Landings.{Landing, found, landed, IsThere}
use Rattle.psos_laws.specs.History.{Transition, transition_at, history_from, AreSoundOrigins, HaveAllLanded}
use Rattle.psos_laws.specs.Trails.{IsHeldBack, IsConfined}
use Rattle.psos_laws.specs.Sealed.{IsSealed}

-- what holds of a state after the requests of a history, from a start
pub record IsLawful (start : Flat) (past : List Transition) (f : Flat) : Type 0 where
  pub landed : HaveAllLanded start past f
  pub origins : AreSoundOrigins start past f
  pub guarded : IsGuarded f
  pub sealed : IsSealed start past f
  pub held_back : IsHeldBack past f

-- so it is at every point of an order: before its first request, and after each
abbrev pub HoldsAlong : Script → Flat → List ℕ → Type 0
HoldsAlong s start order = (front rest : List ℕ) → order ≡ front ++ rest → IsLawful start (history_from s start front) (run_from s start front)

-- of each order from a sound state, legal or not
abbrev pub RunsAreLawful : Type 0
RunsAreLawful = (s : Script) (start : Flat) (order : List ℕ) → IsWellFormed s → IsSound s start → HoldsAlong s start order

-- what is confined stays confined, whatever any user asks
abbrev pub ConfinedStays : Type 0
ConfinedStays = (s : Script) (start : Flat) (order more : List ℕ) (u x m : ℕ) → IsWellFormed s → IsSound s start
    → IsConfined (run_from s start order) u x m → IsConfined (run_from s start (order ++ more)) u x m

-- all rights but bit 0
abbrev pub all_but_bit_0 : Rights
all_but_bit_0 = record { 0 = 0xfffe }

-- a script meets it: where user 0 first takes bit 0 off the capability on its process, the process is confined for the right send
abbrev pub AProcessIsConfined : Type 0
AProcessIsConfined = (s : Script) → IsWellFormed s → slice_get (requests_of (user_script s 0)) 0 ≡ Some (Restrict 1 1 all_but_bit_0)
    → IsConfined (run s (0 ∷ [])) 0 (process_of 0) (2 ^ bit_of Send)

-- a capability at a place after an answer landed there, or lay there or moved up to there
abbrev pub LandingsAreAll : Type 0
LandingsAreAll = (s : Script) (f : Flat) (u : ℕ) (p : Place) (cap : Capability) → IsWellFormed s → IsSound s f → cap_at (answer s f u).0 p ≡ Some cap
    → landed (transition_at s f u).landings p (cap_at f ((transition_at s f u).moved p)) ≡ Some cap

-- a capability that lands and was read nowhere is new
abbrev pub UnreadIsNew : Type 0
UnreadIsNew = (s : Script) (f : Flat) (u i : ℕ) (l : Landing) (cap : Capability) → IsWellFormed s → IsSound s f
    → slice_get (transition_at s f u).landings i ≡ Some l → l.word ≡ Cap cap → l.source ≡ None → f.next ≤ cap.uid

-- what landed last at a place is there after an answer, if the place is
abbrev pub LandingsStay : Type 0
LandingsStay = (s : Script) (f : Flat) (u : ℕ) (p : Place) (l : Landing) → IsWellFormed s → IsSound s f
    → found (transition_at s f u).landings p ≡ Some l → IsThere (answer s f u).0 p → cap_at (answer s f u).0 p ≡ cap_in l.word
