-- Where a serial run stands, and who comes first.
use Rattle.std.proofs.Common.{◌≡◌, ◌≢◌, ℕ, zero, suc, ◌+◌, ◌-◌, ◌<◌, ◌≤◌, Bool, true, false, cond, nat_lt, List, [], ◌∷◌, length, Option, Some, None, refl, sym, ap, ◌∙◌, ◌⊎◌, inl, inr, subst, arith}
use Rattle.std.specs.Prelude.{◌||◌, slice_get, slice_set}
use Rattle.std.proofs.lemmas.Bool.{eq-eqb, ne_eqb, ltb-true, lt-ltb, cases_lt, cases_order}
use Rattle.std.proofs.lemmas.Option.{same_Some, none-some, slice_get_within}
use Rattle.psos_calls.specs.declared.request.Request.{Request}
use Rattle.psos_calls.specs.declared.frame.Frame.{Frame}
use Rattle.psos_calls.specs.Language.Script.{Script, requests_of, user_script, body_of}
use Rattle.psos_calls.specs.Language.User.{User, next_in, next_request}
use Rattle.psos_calls.specs.Language.Tests.{if_there}
use Rattle.psos_model.specs.Sound.Users.{HasLine}
use Rattle.psos_model.specs.Run.{phase_at, phase_in, phase_of, earlier, current_phase, is_now, is_open, is_left, has_left}
use Rattle.psos_model.specs.Run.SerialOrder.{IsFirst}
use Rattle.psos_laws.proofs.UserProgress.{GoesOn, one_if_outside}
use Rattle.psos_laws.proofs.AnswerProgress.{pick}
use Rattle.psos_laws.proofs.UnchangedPlaces.{set_apart, set_here}
use Rattle.psos_core.specs.UnderWay.{phases_most, asked_before, due, AtLeast, IsPast, IsWithin, IsAt}
use Rattle.psos_core.proofs.PhaseRequests.{at_zero, phase_low, phase_high, phase_next, phase_within}
use Rattle.psos_core.proofs.ScriptPhases.{phases_of_user}

-- ---- what is due

-- a request that is due is the next one
pub record IsDue (s : Script) (x : User) (count : ℕ) (request : Request) : Type 0 where
  pub test : (is_open x.frames || nat_lt x.answered count) ≡ true
  pub next : next_request s x ≡ Some request

pub due_some : (s : Script) (x : User) (count : ℕ) (request : Request) → due s x count ≡ Some request → IsDue s x count request
due_some s x count request e = by_test (is_open x.frames || nat_lt x.answered count) refl e
  where
    by_test : (b : Bool) → (is_open x.frames || nat_lt x.answered count) ≡ b → cond b (next_request s x) None ≡ Some request → IsDue s x count request
    by_test true test e = record { test = test; next = e }
    by_test false test e = absurd (none-some request e)

-- where nothing is due, no body is open, and so many requests are answered
pub record IsThrough (x : User) (count : ℕ) : Type 0 where
  pub closed : x.frames ≡ []
  pub answered : count ≤ x.answered

pub due_none : (s : Script) (x : User) (count : ℕ) → due s x count ≡ None → HasLine s x.frames → count ≤ length (requests_of (user_script s x.number)) → IsThrough x count
due_none s x count e line few = by_frames x.frames refl line e
  where
    none : {A : Type 0} (o : Option Request) → (r : Request) × (o ≡ Some r) → o ≡ None → A
    none o found e = absurd (none-some found.0 (sym e ∙ found.1))

    by_count : x.frames ≡ [] → (x.answered < count) ⊎ (count ≤ x.answered) → cond (nat_lt x.answered count) (next_in s x []) None ≡ None → IsThrough x count
    by_count closed (inl less) e =
        let test : nat_lt x.answered count ≡ true = lt-ltb x.answered count less in
        let same : next_in s x [] ≡ None = subst (λ (b : Bool). cond b (next_in s x []) None ≡ None) test e in
        none (next_in s x []) (pick (requests_of (user_script s x.number)) x.answered (omega (arith, less, few))) same
    by_count closed (inr past) e = record { closed = closed; answered = past }

    by_frames : (frames : List Frame) → x.frames ≡ frames → HasLine s frames → cond (is_open frames || nat_lt x.answered count) (next_in s x frames) None ≡ None → IsThrough x count
    by_frames [] closed line e = by_count closed (cases_lt x.answered count) e
    by_frames (q ∷ outer) opened line e = none (next_in s x (q ∷ outer)) (pick (body_of s q.label) q.line line) e

-- ---- the phase of a user

-- a request that is due is in the present phase
pub due_phase : (s : Script) (p u : ℕ) (x : User) → x.number ≡ u → IsWithin s p x → (is_open x.frames || nat_lt x.answered (asked_before (user_script s u).phases (p + 1))) ≡ true → phase_of s x ≡ Some p
due_phase s p u x number within test = by_frames x.frames refl test
  where
    phases : List (List Request)
    phases = (user_script s u).phases

    plain : x.frames ≡ [] → phase_of s x ≡ phase_at phases x.answered
    plain closed = ap (phase_in s x) closed ∙ ap (λ (n : ℕ). phase_at (user_script s n).phases x.answered) number

    by_frames : (frames : List Frame) → x.frames ≡ frames → (is_open frames || nat_lt x.answered (asked_before phases (p + 1))) ≡ true → phase_of s x ≡ Some p
    by_frames [] closed test =
        let high = phase_high phases (p + 1) x.answered (ltb-true x.answered (asked_before phases (p + 1)) test) in
        let is : phase_of s x ≡ Some high.phase = plain closed ∙ high.is in
        let low : p ≤ high.phase = subst (AtLeast p) is within.phase in
        is ∙ ap (λ (n : ℕ). Some n) (omega (arith, low, high.less))
    by_frames (q ∷ outer) opened test = within.opened (ap is_open opened)

-- where nothing of the phase is left, the user is through with it
pub past_phase : (s : Script) (p u : ℕ) (x : User) → x.number ≡ u → IsThrough x (asked_before (user_script s u).phases p) → IsPast s p x
past_phase s p u x number served =
    let plain : phase_of s x ≡ phase_at (user_script s u).phases x.answered = ap (phase_in s x) served.closed ∙ ap (λ (n : ℕ). phase_at (user_script s n).phases x.answered) number in
    record { closed = served.closed; phase = subst (AtLeast p) (sym plain) (phase_low (user_script s u).phases p x.answered served.answered) }

open_false : (frames : List Frame) → frames ≡ [] → is_open frames ≡ true → ⊥
open_false [] e h = absurd cc
open_false (q ∷ outer) e h = absurd cc

pub past_within : (s : Script) (p : ℕ) (x : User) → IsPast s p x → IsWithin s p x
past_within s p x h = record { opened = λ e. absurd (open_false x.frames h.closed e); phase = h.phase }

-- where the last request that was counted is in the phase, the user is within it
counted_within : (s : Script) (p : ℕ) (y : User) → phase_at (user_script s y.number).phases (y.answered - 1) ≡ Some p → IsWithin s p y
counted_within s p y is = record { opened = opened y.frames; phase = at_least y.frames }
  where
    by_count : (a : ℕ) → phase_at (user_script s y.number).phases (a - 1) ≡ Some p → AtLeast p (phase_at (user_script s y.number).phases a)
    by_count zero is = subst (AtLeast p) (sym is) (omega arith)
    by_count (suc a) is =
        let same : a + 1 ≡ suc a = omega arith in
        let last : a ≡ suc a - 1 = omega arith in
        let last-is : phase_at (user_script s y.number).phases a ≡ Some p = ap (phase_at (user_script s y.number).phases) last ∙ is in
        subst (λ (n : ℕ). AtLeast p (phase_at (user_script s y.number).phases n)) same (phase_next (user_script s y.number).phases p a last-is)

    opened : (frames : List Frame) → is_open frames ≡ true → phase_in s y frames ≡ Some p
    opened [] e = absurd cc
    opened (q ∷ outer) e = is

    at_least : (frames : List Frame) → AtLeast p (phase_in s y frames)
    at_least [] = by_count y.answered is
    at_least (q ∷ outer) = subst (AtLeast p) (sym is) (omega arith)

-- a user whose request was of the phase goes on within it
pub goes_within : (s : Script) (p u : ℕ) (x y : User) → x.number ≡ u → GoesOn s u x y → phase_of s x ≡ Some p → IsWithin s p y
goes_within s p u x y number on phase = counted_within s p y (own ∙ by_frames x.frames refl phase)
  where
    own : phase_at (user_script s y.number).phases (y.answered - 1) ≡ phase_at (user_script s x.number).phases (y.answered - 1)
    own = ap (λ (n : ℕ). phase_at (user_script s n).phases (y.answered - 1)) (on.going.number ∙ sym number)

    by_frames : (frames : List Frame) → x.frames ≡ frames → phase_in s x frames ≡ Some p → phase_at (user_script s x.number).phases (y.answered - 1) ≡ Some p
    by_frames [] closed is =
        let one : y.answered ≡ x.answered + 1 = on.count ∙ ap (λ (fs : List Frame). x.answered + one_if_outside fs) closed in
        ap (phase_at (user_script s x.number).phases) (omega (arith, one)) ∙ is
    by_frames (q ∷ outer) opened is =
        let same : y.answered ≡ x.answered + 0 = on.count ∙ ap (λ (fs : List Frame). x.answered + one_if_outside fs) opened in
        ap (phase_at (user_script s x.number).phases) (omega (arith, same)) ∙ is

-- ---- the current phase

earlier_low : (p : ℕ) (a b : Option ℕ) → AtLeast p a → AtLeast p b → AtLeast p (earlier a b)
earlier_low p None b h k = k
earlier_low p (Some q) None h k = h
earlier_low p (Some q) (Some r) h k = omega arith

earlier_first : (p : ℕ) (b : Option ℕ) → AtLeast p b → earlier (Some p) b ≡ Some p
earlier_first p None h = refl
earlier_first p (Some q) h = ap (λ (n : ℕ). Some n) (omega arith)

earlier_second : (p : ℕ) (a : Option ℕ) → AtLeast p a → earlier a (Some p) ≡ Some p
earlier_second p None h = refl
earlier_second p (Some q) h = ap (λ (n : ℕ). Some n) (omega arith)

-- no user has an earlier phase
abbrev NoneEarlier : Script → List User → ℕ → Type 0
NoneEarlier s users p = (v : ℕ) (x : User) → slice_get users v ≡ Some x → AtLeast p (phase_of s x)

current_low : (s : Script) (users : List User) (p : ℕ) → NoneEarlier s users p → AtLeast p (current_phase s users)
current_low s [] p h = tt
current_low s (x ∷ xs) p h = earlier_low p (phase_of s x) (current_phase s xs) (h zero x refl) (current_low s xs p (λ v y e. h (suc v) y e))

current_is : (s : Script) (users : List User) (p u : ℕ) (x : User) → NoneEarlier s users p → slice_get users u ≡ Some x → phase_of s x ≡ Some p → current_phase s users ≡ Some p
current_is s [] p u x h e phase = absurd (none-some x e)
current_is s (y ∷ ys) p zero x h e phase =
    let same : phase_of s y ≡ Some p = ap (λ (z : User). phase_of s z) (same_Some y x e) ∙ phase in
    ap (λ (o : Option ℕ). earlier o (current_phase s ys)) same ∙ earlier_first p (current_phase s ys) (current_low s ys p (λ v z k. h (suc v) z k))
current_is s (y ∷ ys) p (suc u) x h e phase =
    ap (λ (o : Option ℕ). earlier (phase_of s y) o) (current_is s ys p u x (λ v z k. h (suc v) z k) e phase) ∙ earlier_second p (phase_of s y) (h zero y refl)

-- ---- who comes first

none_earlier : (s : Script) (users : List User) (p u : ℕ) → IsAt s users p u → NoneEarlier s users p
none_earlier s users p u h v x there = by_order (cases_order v u)
  where
    sooner : (o : Option ℕ) → AtLeast (p + 1) o → AtLeast p o
    sooner None low = tt
    sooner (Some q) low = omega (arith, low)

    by_order : (v ≡ u) ⊎ ((v < u) ⊎ (u < v)) → AtLeast p (phase_of s x)
    by_order (inl same) = (h.here x (ap (slice_get users) (sym same) ∙ there)).phase
    by_order (inr (inl less)) = sooner (phase_of s x) (h.before v x less there).phase
    by_order (inr (inr more)) = (h.behind v x more there).phase

or_right : (b c : Bool) → c ≡ true → (b || c) ≡ true
or_right true c e = refl
or_right false c e = e

not_now : (p : ℕ) (o : Option ℕ) → AtLeast (p + 1) o → is_now o (Some p) ≡ false
not_now p None h = refl
not_now p (Some q) h = ne_eqb q p (λ e. absurd (omega (arith, h, e)))

-- the user that is served is the first with a request left, where one of the phase is left to it
pub is_first : (s : Script) (users : List User) (p u : ℕ) (x : User) → IsAt s users p u → slice_get users u ≡ Some x → phase_of s x ≡ Some p → IsFirst s users u
is_first s users p u x h there phase = record {
  left = ap (λ (o : Option User). if_there o false (λ z. is_left s users z)) there
      ∙ or_right (is_open x.frames) (is_now (phase_of s x) (current_phase s users))
      (ap (λ (o : Option ℕ). is_now o (current_phase s users)) phase ∙ ap (is_now (Some p)) now ∙ eq-eqb p p refl);
  least = λ v less. by_user v less (slice_get users v) refl;
}
  where
    now : current_phase s users ≡ Some p
    now = current_is s users p u x (none_earlier s users p u h) there phase

    by_user : (v : ℕ) → v < u → (o : Option User) → slice_get users v ≡ o → if_there o false (λ z. is_left s users z) ≡ false
    by_user v less None e = refl
    by_user v less (Some z) e =
        let past = h.before v z less e in
        ap (λ (fs : List Frame). is_open fs || is_now (phase_of s z) (current_phase s users)) past.closed
        ∙ ap (is_now (phase_of s z)) now ∙ not_now p (phase_of s z) past.phase

-- ---- nobody

-- a phase of a user is one of the script's
phase_most : (s : Script) (x : User) (frames : List Frame) (p : ℕ) → phase_in s x frames ≡ Some p → p < phases_most s.users
phase_most s x [] p e = omega (arith, phase_within (user_script s x.number).phases x.answered p e, phases_of_user s x.number)
phase_most s x (q ∷ outer) p e = omega (arith, phase_within (user_script s x.number).phases (x.answered - 1) p e, phases_of_user s x.number)

-- so past them all nothing is left
nothing_left : (s : Script) (users : List User) (p : ℕ) (x : User) → phases_most s.users ≤ p → IsWithin s p x → is_left s users x ≡ false
nothing_left s users p x all h = by_phase (phase_of s x) refl h.phase
  where
    closed : (b : Bool) → is_open x.frames ≡ b → phase_of s x ≡ None → b ≡ false
    closed true e none = absurd (none-some p (sym none ∙ h.opened e))
    closed false e none = refl

    by_phase : (o : Option ℕ) → phase_of s x ≡ o → AtLeast p o → is_left s users x ≡ false
    by_phase None none low =
        ap (λ (b : Bool). b || is_now (phase_of s x) (current_phase s users)) (closed (is_open x.frames) refl none)
        ∙ ap (λ (o : Option ℕ). is_now o (current_phase s users)) none
    by_phase (Some q) is low = absurd (omega (arith, phase_most s x x.frames q is, low, all))

pub nobody_left : (s : Script) (users : List User) (p : ℕ) → phases_most s.users ≤ p → IsAt s users p 0 → (u : ℕ) → has_left s users u ≡ false
nobody_left s users p all h u = by_user u (slice_get users u) refl
  where
    within : (u : ℕ) (x : User) → slice_get users u ≡ Some x → IsWithin s p x
    within zero x there = h.here x there
    within (suc u) x there = past_within s p x (h.behind (suc u) x (omega arith) there)

    by_user : (u : ℕ) (o : Option User) → slice_get users u ≡ o → if_there o false (λ x. is_left s users x) ≡ false
    by_user u None e = refl
    by_user u (Some x) e = nothing_left s users p x all (within u x e)

-- ---- as the run goes on

-- where no body is open, it stands before the first phase
pub at_first : (s : Script) (users : List User) → ((u : ℕ) (x : User) → slice_get users u ≡ Some x → x.frames ≡ []) → IsAt s users 0 0
at_first s users closed = record {
  before = λ v x less there. absurd (omega (arith, less));
  here = λ x there. past_within s 0 x (past 0 x there);
  behind = λ v x more there. past v x there;
}
  where
    past : (u : ℕ) (x : User) → slice_get users u ≡ Some x → IsPast s 0 x
    past u x there = record { closed = closed u x there; phase = at_zero (phase_of s x) }

-- a request of the user that is served was answered
pub at_more : (s : Script) (users : List User) (p u : ℕ) (me y : User) → slice_get users u ≡ Some me → IsAt s users p u → IsWithin s p y → IsAt s (slice_set users u y) p u
at_more s users p u me y is h within = record {
  before = λ v x less there. h.before v x less (other v x (λ e. absurd (omega (arith, e, less))) there);
  here = λ x there. subst (IsWithin s p) (same_Some y x (sym (set_here users u y me is) ∙ there)) within;
  behind = λ v x more there. h.behind v x more (other v x (λ e. absurd (omega (arith, e, more))) there);
}
  where
    other : (v : ℕ) (x : User) → v ≢ u → slice_get (slice_set users u y) v ≡ Some x → slice_get users v ≡ Some x
    other v x apart there = sym (set_apart users u v y apart) ∙ there

-- the user is through with the phase
pub at_user : (s : Script) (users : List User) (p u : ℕ) (y : User) → slice_get users u ≡ Some y → IsPast s (p + 1) y → IsAt s users p u → IsAt s users p (u + 1)
at_user s users p u y here past h = record {
  before = λ v x less there. by_order v x there (cases_lt v u) less;
  here = λ x there. past_within s p x (h.behind (u + 1) x (omega arith) there);
  behind = λ v x more there. h.behind v x (omega (arith, more)) there;
}
  where
    by_order : (v : ℕ) (x : User) → slice_get users v ≡ Some x → (v < u) ⊎ (u ≤ v) → v < u + 1 → IsPast s (p + 1) x
    by_order v x there (inl less) lt = h.before v x less there
    by_order v x there (inr more) lt =
        let same : u ≡ v = omega (arith, more, lt) in
        subst (IsPast s (p + 1)) (same_Some y x (sym here ∙ (ap (slice_get users) same ∙ there))) past

-- all users are
pub at_phase : (s : Script) (users : List User) (p u : ℕ) → u ≡ length users → IsAt s users p u → IsAt s users (p + 1) 0
at_phase s users p u all h = record {
  before = λ v x less there. absurd (omega (arith, less));
  here = λ x there. past_within s (p + 1) x (past 0 x there);
  behind = λ v x more there. past v x there;
}
  where
    past : (v : ℕ) (x : User) → slice_get users v ≡ Some x → IsPast s (p + 1) x
    past v x there = h.before v x (omega (arith, all, slice_get_within users v x there)) there
