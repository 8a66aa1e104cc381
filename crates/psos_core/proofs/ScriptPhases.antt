-- What holds of the phases of a well-formed script.
use Rattle.std.proofs.Common.{ℕ, zero, suc, ◌+◌, ◌<◌, ◌≤◌, List, [], ◌∷◌, length, arith}
use Rattle.std.specs.Prelude.{slice_index_or, sum_by}
use Rattle.std.specs.List.{AllByRecursion}
use Rattle.psos_calls.specs.Language.Script.{UserScript, Script, user_script, IsUserScript, IsWellFormed}
use Rattle.psos_core.specs.UnderWay.{phases_most}
use Rattle.psos_core.proofs.PhaseRequests.{phases_few}

-- a user of a script
user_within : (blocks : ℕ) (users : List UserScript) (u : ℕ) → AllByRecursion (IsUserScript blocks) users → u < length users → IsUserScript blocks (slice_index_or users u (record { name = []; phases = [] }))
user_within blocks [] u h lt = absurd (omega arith)
user_within blocks (x ∷ xs) zero h lt = h.0
user_within blocks (x ∷ xs) (suc u) h lt = user_within blocks xs u h.1 (omega arith)

-- what it asks is short
pub user_few : (s : Script) (u : ℕ) → IsWellFormed s → u < length s.users → sum_by (λ p. length p + 1) (user_script s u).phases ≤ 241
user_few s u w lt = (user_within (length s.codes) s.users u w.users lt).few

-- ---- phases

most_few : (users : List UserScript) (blocks : ℕ) → AllByRecursion (IsUserScript blocks) users → phases_most users ≤ 241
most_few [] blocks h = omega arith
most_few (x ∷ xs) blocks h =
    let few = h.0.few in
    omega (arith, most_few xs blocks h.1, phases_few x.phases)

pub phases_bound : (s : Script) → IsWellFormed s → phases_most s.users ≤ 241
phases_bound s w = most_few s.users (length s.codes) w.users

most_of : (users : List UserScript) (u : ℕ) → length (slice_index_or users u (record { name = []; phases = [] })).phases ≤ phases_most users
most_of [] u = omega arith
most_of (x ∷ xs) zero = omega arith
most_of (x ∷ xs) (suc u) = omega (arith, most_of xs u)

-- no user has more phases
pub phases_of_user : (s : Script) (u : ℕ) → length (user_script s u).phases ≤ phases_most s.users
phases_of_user s u = most_of s.users u
