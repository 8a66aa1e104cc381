-- The phases of the requests of an order. States docs/promises.md, "Runs".
use Rattle.std.specs.Prelude.{◌≡◌, ℕ, ◌<◌, List, [], ◌∷◌, slice_get, Option, Some, None, IsSome}
use Rattle.psos_calls.specs.Language.Script.{Script, IsWellFormed}
use Rattle.psos_calls.specs.Language.Tests.{if_there}
use Rattle.psos_model.specs.Flat.{Flat}
use Rattle.psos_model.specs.Answer.{answer}
use Rattle.psos_model.specs.Run.{phase_of, IsLegalFrom}
use Rattle.psos_model.specs.Sound.{IsStart}

-- the phase of each request of an order, when its user asks it
abbrev pub phases_from : Script → Flat → List ℕ → List (Option ℕ)
phases_from s f [] = []
phases_from s f (u ∷ us) = if_there (slice_get f.users u) None (phase_of s) ∷ phases_from s (answer s f u).0 us

-- each request has a phase, and comes before those of later phases
pub record AreInPhases (phases : List (Option ℕ)) : Type 0 where
  pub each : (i : ℕ) (p : Option ℕ) → slice_get phases i ≡ Some p → IsSome p
  pub before : (i j p q : ℕ) → slice_get phases i ≡ Some (Some p) → slice_get phases j ≡ Some (Some q) → p < q → i < j

-- so it is in each legal order from a start
abbrev pub PhasesFollow : Type 0
PhasesFollow = (s : Script) (f : Flat) (order : List ℕ) → IsWellFormed s → IsStart s f → IsLegalFrom s f order → AreInPhases (phases_from s f order)
