-- Who has a request left, as the phases of a run go by. States docs/promises.md, "Runs".
use Rattle.std.proofs.Common.{◌≡◌, ℕ, ◌≤◌, ◌||◌, Bool, true, false, List, [], ◌∷◌, Option, Some, None, refl, sym, ap, ◌∙◌, ◌⊎◌, inl, inr, subst, arith}
use Rattle.std.specs.Prelude.{slice_get, slice_set}
use Rattle.std.proofs.lemmas.Bool.{cases_eq, or_left, or_right}
use Rattle.std.proofs.lemmas.Option.{same_Some, none-some}
use Rattle.psos_calls.specs.declared.entry.Entry.{Entry}
use Rattle.psos_calls.specs.declared.request.Request.{Request}
use Rattle.psos_calls.specs.declared.effect.Effect.{Effect}
use Rattle.psos_calls.specs.declared.reply.Reply.TheVariants as replies
use Rattle.psos_calls.specs.Language.Script.{Script}
use Rattle.psos_calls.specs.Language.User.{User, next_request, after}
use Rattle.psos_calls.specs.Language.Tests.{if_there}
use Rattle.psos_calls.specs.Plan.{run_plan}
use Rattle.psos_calls.specs.Plan.Requests.{plan_of}
use Rattle.psos_model.specs.Run.{phase_of, current_phase, is_now, is_open, is_left}
use Rattle.psos_model.specs.Replay.{System, replay_to, replay_step, replay_from}
use Rattle.psos_laws.proofs.UserSoundness.{each_set}
use Rattle.psos_events.proofs.RequestsLeft.{AtLeast, NoneEarlier, user_rises, all_least, current_is, now_from}
use Rattle.psos_histories.specs.Records.{order_in, replay_in}
use Rattle.psos_histories.specs.Phases.{IsPast, PastStays, KnowsPast, LeftInPhase, NobodyHasLeft}
use Rattle.psos_histories.proofs.OwnParts.{replay_rest}

-- ---- in no phase before one

abbrev NotBefore : ℕ → Option ℕ → Type 0
NotBefore p o = (q : ℕ) → o ≡ Some q → p ≤ q

least_of : (p : ℕ) (o : Option ℕ) → NotBefore p o → AtLeast p o
least_of p None h = tt
least_of p (Some q) h = h q refl

not_before : (p : ℕ) (o : Option ℕ) → AtLeast p o → NotBefore p o
not_before p None h q e = absurd (none-some q e)
not_before p (Some r) h q e = subst (λ (k : ℕ). p ≤ k) (same_Some r q e) h

-- a request of the user leaves it so
rises : (s : Script) (x : User) (e : Effect) (p : ℕ) → NotBefore p (phase_of s x) → NotBefore p (phase_of s (after s x e))
rises s x e p h = not_before p (phase_of s (after s x e)) (user_rises s x e p (least_of p (phase_of s x) h))

-- ---- who is past a phase stays so

-- user v is, if this is user v
abbrev IfUser : Script → ℕ → ℕ → ℕ → User → Type 0
IfUser s p v w x = w ≡ v → NotBefore p (phase_of s x)

set_past : (s : Script) (p v u : ℕ) (users : List User) (x z : User) → slice_get users u ≡ Some x → (NotBefore p (phase_of s x) → NotBefore p (phase_of s z)) → IsPast s p v users → IsPast s p v (slice_set users u z)
set_past s p v u users x z here up past w there =
    let each : (i : ℕ) (y : User) → slice_get users i ≡ Some y → IfUser s p v i y = λ i y at same. past y (ap (slice_get users) (sym same) ∙ at) in
    each_set (IfUser s p v) users u z each (λ same. up (past x (ap (slice_get users) (sym same) ∙ here))) v w there refl

past_to : (s : Script) (y : System) (p v u : ℕ) (x : User) (o : Option Request) → slice_get y.users u ≡ Some x → IsPast s p v y.users → IsPast s p v (replay_to s y u x o).0.users
past_to s y p v u x None here past = past
past_to s y p v u x (Some request) here past =
    let e = (run_plan (plan_of x request) y.levels).effect in
    set_past s p v u y.users x (after s x e) here (rises s x e p) past

past_of : (s : Script) (y : System) (p v u : ℕ) (o : Option User) → slice_get y.users u ≡ o → IsPast s p v y.users
    → IsPast s p v (if_there o (y, record { user = u; n = 0; m = 0; steps = []; reply = replies.Fine }) (λ x. replay_to s y u x (next_request s x))).0.users
past_of s y p v u None here past = past
past_of s y p v u (Some x) here past = past_to s y p v u x (next_request s x) here past

past_from : (s : Script) (p v : ℕ) (order : List ℕ) (y : System) → IsPast s p v y.users → IsPast s p v (replay_from s y order).users
past_from s p v [] y past = past
past_from s p v (u ∷ us) y past = past_from s p v us (replay_step s y u).0 (past_of s y p v u (slice_get y.users u) refl past)

pub past_stays : PastStays
past_stays s y p v order past = past_from s p v order y past

-- so who is known to be past is so
past_now : (s : Script) (y : System) (p v : ℕ) (log : List (Entry × ℕ)) → KnowsPast s y p v log → IsPast s p v (replay_in s y log).users
past_now s y p v log h =
    let rest = h.prefix.0 in
    let same : replay_from s (replay_in s y h.past) (order_in rest) ≡ replay_in s y log = sym (replay_rest s y h.past rest) ∙ ap (λ (l : List (Entry × ℕ)). replay_in s y l) h.prefix.1 in
    subst (λ (z : System). IsPast s p v z.users) same (past_from s p v (order_in rest) (replay_in s y h.past) h.is_past)

-- ---- a request is left

pub left_in_phase : LeftInPhase
left_in_phase s y u x p log here which receipts =
    ap (λ (o : Option User). if_there o false (λ z. is_left s users z)) here ∙ by_which which
  where
    users : List User
    users = (replay_in s y log).users

    by_which : (is_open x.frames ≡ true) ⊎ (phase_of s x ≡ Some p) → is_left s users x ≡ true
    by_which (inl open_body) = or_left (is_open x.frames) (is_now (phase_of s x) (current_phase s users)) open_body
    by_which (inr mine) =
        let each : (v : ℕ) (z : User) → slice_get users v ≡ Some z → NoneEarlier s p v z = λ v z there. elim (cases_eq v u) [
          | inl same ↦
              let is : x ≡ z = same_Some x z (sym here ∙ (ap (slice_get users) (sym same) ∙ there)) in
              subst (λ (q : User). AtLeast p (phase_of s q)) is (subst (AtLeast p) (sym mine) (omega arith))
          | inr apart ↦ least_of p (phase_of s z) (past_now s y p v log (receipts v apart) z there)
        ] in
        or_right (is_open x.frames) (is_now (phase_of s x) (current_phase s users))
        (now_from (phase_of s x) (current_phase s users) (record { phase = p; first = mine; second = current_is s users p u x here mine (all_least s users p each) }))

pub nobody_has_left : NobodyHasLeft
nobody_has_left s users h u = by_user (slice_get users u) refl
  where
    by_user : (o : Option User) → slice_get users u ≡ o → if_there o false (λ x. is_left s users x) ≡ false
    by_user None e = refl
    by_user (Some x) e =
        let none = h u x e in
        ap (λ (b : Bool). b || is_now (phase_of s x) (current_phase s users)) none.0 ∙ ap (λ (o : Option ℕ). is_now o (current_phase s users)) none.1
