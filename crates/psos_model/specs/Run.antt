-- Runs of a script, and which orders of its users they may take. States docs/promises.md, "Runs".
pub mod SerialOrder
use Rattle.std.specs.Prelude.{◌≡◌, ℕ, ◌+◌, ◌-◌, ◌==◌, ◌||◌, Bool, true, false, List, [], ◌∷◌, length, slice_get, Option, Some, None, IsTrue, if◌then◌else◌, nat_lt, min, option_map}
use Rattle.psos_calls.specs.declared.request.Request.{Request}
use Rattle.psos_calls.specs.declared.frame.Frame.{Frame}
use Rattle.psos_calls.specs.Language.Script.{Script, user_script}
use Rattle.psos_calls.specs.Language.User.{User}
use Rattle.psos_calls.specs.Language.Tests.{if_there}
use Rattle.psos_model.specs.Flat.{Flat}
use Rattle.psos_model.specs.Flat.Boot.{boot}
use Rattle.psos_model.specs.Answer.{Answered, answer}

-- ---- phases

-- the phase of request number k
abbrev pub phase_at : List (List Request) → ℕ → Option ℕ
phase_at [] k = None
phase_at (phase ∷ later) k = if nat_lt k (length phase) then Some 0 else option_map (λ p. p + 1) (phase_at later (k - length phase))

-- the phase of what a user asks next, if anything is left: an open body is in the phase of its script request
abbrev pub phase_in : Script → User → List Frame → Option ℕ
phase_in s x [] = phase_at (user_script s x.number).phases x.answered
phase_in s x (q ∷ outer) = phase_at (user_script s x.number).phases (x.answered - 1)

abbrev pub phase_of : Script → User → Option ℕ
phase_of s x = phase_in s x x.frames

abbrev pub earlier : Option ℕ → Option ℕ → Option ℕ
earlier None q = q
earlier (Some p) None = Some p
earlier (Some p) (Some q) = Some (min p q)

-- the current phase: the least one in which some user has a request left
abbrev pub current_phase : Script → List User → Option ℕ
current_phase s [] = None
current_phase s (x ∷ others) = earlier (phase_of s x) (current_phase s others)

-- ---- who has a request left

abbrev pub is_now : Option ℕ → Option ℕ → Bool
is_now (Some p) (Some q) = p == q
is_now _ _ = false

abbrev pub is_open : List Frame → Bool
is_open [] = false
is_open (q ∷ outer) = true

-- an open body, or an unanswered request of the current phase
abbrev pub is_left : Script → List User → User → Bool
is_left s users x = is_open x.frames || is_now (phase_of s x) (current_phase s users)

-- user u has a request left
abbrev pub has_left : Script → List User → ℕ → Bool
has_left s users u = if_there (slice_get users u) false (λ x. is_left s users x)

-- ---- orders

-- the state after the requests of these users, one after another
abbrev pub run_from : Script → Flat → List ℕ → Flat
run_from s f [] = f
run_from s f (u ∷ us) = run_from s (answer s f u).0 us

-- what was answered on the way
abbrev pub answers_from : Script → Flat → List ℕ → List Answered
answers_from s f [] = []
answers_from s f (u ∷ us) = (answer s f u).1 ∷ answers_from s (answer s f u).0 us

-- each user has a request left when it comes
abbrev pub IsLegalFrom : Script → Flat → List ℕ → Type 0
IsLegalFrom s f [] = Unit {0}
IsLegalFrom s f (u ∷ us) = IsTrue (has_left s f.users u) × IsLegalFrom s (answer s f u).0 us

abbrev pub run : Script → List ℕ → Flat
run s order = run_from s (boot s) order

abbrev pub answers : Script → List ℕ → List Answered
answers s order = answers_from s (boot s) order

-- from boot the order is legal, and no user has a request left after it
pub record IsComplete (s : Script) (order : List ℕ) : Type 0 where
  pub legal : IsLegalFrom s (boot s) order
  pub over : (u : ℕ) → has_left s (run s order).users u ≡ false
