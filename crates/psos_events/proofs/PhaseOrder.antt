-- Requests of a phase come before those of later phases. States docs/promises.md, "Runs".
use Rattle.std.proofs.Common.{◌≡◌, ℕ, zero, suc, ◌<◌, ◌≤◌, Bool, true, false, List, [], ◌∷◌, Option, Some, None, refl, sym, ap, ◌∙◌, inl, inr, subst, arith}
use Rattle.std.specs.Prelude.{slice_get, slice_set, IsTrue, IsSome}
use Rattle.std.proofs.lemmas.Bool.{true≢false, or_cases}
use Rattle.std.proofs.lemmas.Option.{same_Some, none-some}
use Rattle.psos_calls.specs.declared.request.Request.{Request}
use Rattle.psos_calls.specs.declared.effect.Effect.{Effect}
use Rattle.psos_calls.specs.Language.Script.{Script, IsWellFormed}
use Rattle.psos_calls.specs.Language.Tests.{if_there}
use Rattle.psos_calls.specs.Language.User.{User, next_request, after}
use Rattle.psos_model.specs.Flat.{Flat}
use Rattle.psos_model.specs.Answer.{outcome, answer, answer_to, silence}
use Rattle.psos_model.specs.Run.{phase_of, current_phase, is_now, is_open, is_left, has_left, IsLegalFrom}
use Rattle.psos_model.specs.Sound.{IsStart}
use Rattle.psos_laws.proofs.UserSoundness.{each_set}
use Rattle.psos_laws.proofs.AnswerProgress.{left_there}
use Rattle.psos_events.specs.Phases.{phases_from, AreInPhases, PhasesFollow}
use Rattle.psos_events.proofs.RequestsLeft.{AtLeast, NoneEarlier, user_rises, open_stays, each_least, AreNow, now_parts}

-- no user is in a phase before this one
abbrev AreFrom : Script → ℕ → List User → Type 0
AreFrom s p users = (v : ℕ) (x : User) → slice_get users v ≡ Some x → NoneEarlier s p v x

-- a user's phase, and nobody is in an earlier one
record IsFirst (s : Script) (users : List User) (x : User) : Type 0 where
  phase : ℕ
  mine : phase_of s x ≡ Some phase
  others : AreFrom s phase users

-- who is in a body is in the first phase
abbrev OpenAreFirst : Script → List User → Type 0
OpenAreFirst s users = (v : ℕ) (x : User) → slice_get users v ≡ Some x → is_open x.frames ≡ true → IsFirst s users x

-- so is who has a request left
left_is_first : (s : Script) (users : List User) (u : ℕ) (x : User) → OpenAreFirst s users → slice_get users u ≡ Some x → is_left s users x ≡ true → IsFirst s users x
left_is_first s users u x h there left = elim (or_cases (is_open x.frames) (is_now (phase_of s x) (current_phase s users)) left) [
  | inl open_body ↦ h u x there open_body
  | inr now ↦
      let are = now_parts (phase_of s x) (current_phase s users) now in
      record { phase = are.phase; mine = are.first; others = each_least s users are.phase (subst (AtLeast are.phase) (sym are.second) (omega arith)) }
]

-- ---- one answer

module _ (s : Script) (users : List User) (u : ℕ) (x : User) (there : slice_get users u ≡ Some x) (e : Effect) where
  abbrev closed : List User
  closed = slice_set users u (after s x e)

  from_stays : (p : ℕ) → AreFrom s p users → AreFrom s p closed
  from_stays p h = each_set (NoneEarlier s p) users u (after s x e) h (user_rises s x e p (h u x there))

  first_stays : (h : OpenAreFirst s users) → IsFirst s users x → OpenAreFirst s closed
  first_stays h mine = each_set (λ v z. is_open z.frames ≡ true → IsFirst s closed z) users u (after s x e)
      (λ v z here some. let first = h v z here some in record { phase = first.phase; mine = first.mine; others = from_stays first.phase first.others })
      (λ some. record { phase = mine.phase; mine = open_stays s x e some ∙ mine.mine; others = from_stays mine.phase mine.others })

-- what holds of the users before an answer to a user that has a request left, and is kept by it, holds after it
kept_by : (s : Script) (P : List User → Type 0) (f : Flat) (u : ℕ) (x : User) → slice_get f.users u ≡ Some x → P f.users → ((e : Effect) → P (slice_set f.users u (after s x e))) → P (answer s f u).0.users
kept_by s P f u x there before then = by_request (next_request s x) refl
  where
    is : (o : Option Request) → next_request s x ≡ o → answer s f u ≡ answer_to s f u x o
    is o asks = ap (λ (i : Option User). if_there i (f, silence u) (λ y. answer_to s f u y (next_request s y))) there ∙ ap (answer_to s f u x) asks

    by_request : (o : Option Request) → next_request s x ≡ o → P (answer s f u).0.users
    by_request None asks = subst (λ a. P a.0.users) (sym (is None asks)) before
    by_request (Some r) asks = subst (λ a. P a.0.users) (sym (is (Some r) asks)) (then (outcome f x r).effect)

-- ---- an order

-- each request has a phase, and it is none before p
from_phase : (s : Script) (p : ℕ) (order : List ℕ) (f : Flat) → AreFrom s p f.users → (j : ℕ) (o : Option ℕ) → slice_get (phases_from s f order) j ≡ Some o → AtLeast p o
from_phase s p [] f h j o at = absurd (none-some o at)
from_phase s p (u ∷ us) f h zero o at = subst (AtLeast p) (same_Some _ o at) (by_user (slice_get f.users u) refl)
  where
    by_user : (i : Option User) → slice_get f.users u ≡ i → AtLeast p (if_there i None (phase_of s))
    by_user None none = tt
    by_user (Some x) there = h u x there
from_phase s p (u ∷ us) f h (suc j) o at = from_phase s p us (answer s f u).0 (by_user (slice_get f.users u) refl) j o at
  where
    by_user : (i : Option User) → slice_get f.users u ≡ i → AreFrom s p (answer s f u).0.users
    by_user None none = subst (λ a. AreFrom s p a.0.users) (sym (ap (λ (i : Option User). if_there i (f, silence u) (λ y. answer_to s f u y (next_request s y))) none)) h
    by_user (Some x) there = kept_by s (AreFrom s p) f u x there h (λ e. from_stays s f.users u x there e p h)

-- a request of a phase before others that are of it or later
joined : (o : Option ℕ) (phases : List (Option ℕ)) (p : ℕ) → o ≡ Some p → ((j : ℕ) (n : Option ℕ) → slice_get phases j ≡ Some n → AtLeast p n) → AreInPhases phases → AreInPhases (o ∷ phases)
joined o phases p is later rest = record { each = each; before = before }
  where
    each : (i : ℕ) (n : Option ℕ) → slice_get (o ∷ phases) i ≡ Some n → IsSome n
    each zero n at = subst (λ m. IsSome m) (sym is ∙ same_Some o n at) refl
    each (suc i) n at = rest.each i n at

    here : (q : ℕ) → Some o ≡ Some (Some q) → p ≡ q
    here q at = same_Some p q (sym is ∙ same_Some o (Some q) at)

    before : (i j q r : ℕ) → slice_get (o ∷ phases) i ≡ Some (Some q) → slice_get (o ∷ phases) j ≡ Some (Some r) → q < r → i < j
    before zero zero q r at then less = absurd (omega (arith, less, here q at, here r then))
    before zero (suc j) q r at then less = omega arith
    before (suc i) zero q r at then less = absurd (omega (arith, less, here r then, later i (Some q) at))
    before (suc i) (suc j) q r at then less = omega (arith, rest.before i j q r at then less)

in_phases : (s : Script) (order : List ℕ) (f : Flat) → OpenAreFirst s f.users → IsLegalFrom s f order → AreInPhases (phases_from s f order)
in_phases s [] f h legal = record { each = λ i p at. absurd (none-some p at); before = λ i j p q at then less. absurd (none-some (Some p) at) }
in_phases s (u ∷ us) f h legal =
    let is = left_there s f.users u legal.0 in
    let x = is.row in
    let left : is_left s f.users x ≡ true = sym (ap (λ (o : Option User). if_there o false (λ y. is_left s f.users y)) is.there) ∙ legal.0 in
    let first = left_is_first s f.users u x h is.there left in
    let from = kept_by s (AreFrom s first.phase) f u x is.there first.others (λ e. from_stays s f.users u x is.there e first.phase first.others) in
    let open_first = kept_by s (OpenAreFirst s) f u x is.there h (λ e. first_stays s f.users u x is.there e h first) in
    joined (if_there (slice_get f.users u) None (phase_of s)) (phases_from s (answer s f u).0 us) first.phase (ap (λ (o : Option User). if_there o None (phase_of s)) is.there ∙ first.mine)
    (from_phase s first.phase us (answer s f u).0 from) (in_phases s us (answer s f u).0 open_first legal.1)

pub phases_follow : PhasesFollow
phases_follow s f order well start legal =
    in_phases s order f (λ v x there some. absurd (true≢false (sym some ∙ ap is_open (start.users v x there).frames))) legal
