-- Laws above the answers and the runs. States docs/promises.md, "Sound states" and "Runs".
use Rattle.std.specs.Prelude.{◌≡◌, ◌≢◌, ◌<◌, ◌≤◌, ◌+◌, ◌==◌, ◌&&◌, ℕ, zero, suc, List, [], ◌∷◌, length, map, filter, slice_get}
use Rattle.psos_limits.specs.declared.TheConstants.{MOST_REQUESTS}
use Rattle.psos_calls.specs.declared.request.Request.{Request}
use Rattle.psos_calls.specs.declared.refusal.Refusal.{Refusal}
use Rattle.psos_calls.specs.declared.reply.Reply.TheVariants.{No}
use Rattle.psos_calls.specs.declared.effect.Effect.TheVariants.{Nothing}
use Rattle.psos_calls.specs.Language.Script.{Script, IsWellFormed, requests_of, user_script}
use Rattle.psos_calls.specs.Language.User.{User}
use Rattle.psos_model.specs.Flat.{Flat}
use Rattle.psos_model.specs.Answer.{Answered, outcome, answer}
use Rattle.psos_model.specs.Flat.Boot.{boot}
use Rattle.psos_model.specs.Run.{IsLegalFrom, IsComplete, run_from, answers}
use Rattle.psos_model.specs.Sound.{IsSound, IsStart}
use Rattle.psos_model.specs.Events.Turns.{IsTurnsOrder}

-- ---- one answer

-- a refused request changes nothing that users share, and has no effect on its user's own part
abbrev pub RefusalsDoNothing : Type 0
RefusalsDoNothing = (f : Flat) (x : User) (request : Request) (r : Refusal) → (outcome f x request).reply ≡ No r
    → ((outcome f x request).changes ≡ []) × ((outcome f x request).effect ≡ Nothing)

-- the next identifier never falls, and rises by at most 2
abbrev pub NextRises : Type 0
NextRises = (s : Script) (f : Flat) (u : ℕ) → (f.next ≤ (answer s f u).0.next) × ((answer s f u).0.next ≤ f.next + 2)

-- a request changes no other user's own part
abbrev pub OthersStay : Type 0
OthersStay = (s : Script) (f : Flat) (u v : ℕ) → u ≢ v → slice_get (answer s f u).0.users v ≡ slice_get f.users v

-- ---- sound states

-- a script can run from boot, which is sound
abbrev pub BootIsStart : Type 0
BootIsStart = (s : Script) → IsWellFormed s → IsStart s (boot s)

-- each answer keeps a state sound
abbrev pub AnswersKeepSound : Type 0
AnswersKeepSound = (s : Script) (f : Flat) (u : ℕ) → IsWellFormed s → IsSound s f → IsSound s (answer s f u).0

-- and so does each run
abbrev pub RunsKeepSound : Type 0
RunsKeepSound = (s : Script) (f : Flat) (order : List ℕ) → IsWellFormed s → IsSound s f → IsSound s (run_from s f order)

-- ---- orders

-- so many numbers, from n on
abbrev pub numbers : ℕ → ℕ → List ℕ
numbers zero n = []
numbers (suc k) n = n ∷ numbers k (n + 1)

-- the numbers of user u's script requests among answers; a line of a body has an m
abbrev pub script_numbers : ℕ → List Answered → List ℕ
script_numbers u all = map (λ (a : Answered). a.n) (filter (λ (a : Answered). (a.user == u) && (a.m == 0)) all)

-- a complete order has each user's script requests once and in order
abbrev pub CompleteOrdersHaveAll : Type 0
CompleteOrdersHaveAll = (s : Script) (order : List ℕ) → IsWellFormed s → IsComplete s order → (u : ℕ) → u < length s.users
    → script_numbers u (answers s order) ≡ numbers (length (requests_of (user_script s u))) 1

-- a legal order from a start has at most 32,768 requests
abbrev pub OrdersEnd : Type 0
OrdersEnd = (s : Script) (f : Flat) (order : List ℕ) → IsWellFormed s → IsStart s f → IsLegalFrom s f order → length order ≤ MOST_REQUESTS

-- a seed has one order of turns at most
abbrev pub OneTurnsOrder : Type 0
OneTurnsOrder = (s : Script) (seed : ℕ) (a b : List ℕ) → IsTurnsOrder s seed a → IsTurnsOrder s seed b → a ≡ b
