-- A user's event, by what its plan does next. States docs/levels.md, "Locks".
use Rattle.std.proofs.Common.{◌≡◌, ℕ, zero, suc, ◌<◌, ◌&&◌, ◌||◌, not, Bool, true, false, cond, List, [], ◌∷◌, length, map, get_or, set, Option, Some, None, refl, sym, ap, ◌∙◌, subst}
use Rattle.std.specs.Prelude.{IsTrue, Result, Ok, Err, OnOk, OnErr, IfErr, IsErrAnd, slice_get, slice_index_or, option_map}
use Rattle.std.specs.List.{list_all}
use Rattle.std.specs.Option.{option_and_then}
use Rattle.std.proofs.lemmas.Bool.{true≢false}
use Rattle.std.proofs.lemmas.List.{length-set}
use Rattle.std.proofs.lemmas.Option.{same_Some, none-some, get_or_from_slice_get, slice_get-get_or}
use Rattle.psos_calls.specs.declared.level.Level.{Level}
use Rattle.psos_calls.specs.Levels.Calls.{LevelCall}
use Rattle.psos_calls.specs.declared.lock_id.LockId.{LockId}
use Rattle.psos_calls.specs.declared.next.Next.{Next}
use Rattle.psos_calls.specs.declared.next.Next.TheVariants as nexts
use Rattle.psos_calls.specs.declared.request.Request.{Request}
use Rattle.psos_calls.specs.declared.reply.Reply.{Reply}
use Rattle.psos_calls.specs.declared.effect.Effect.{Effect}
use Rattle.psos_calls.specs.declared.step.Step.{Step}
use Rattle.psos_calls.specs.Language.Script.{Script}
use Rattle.psos_calls.specs.Language.User.{User, next_request}
use Rattle.psos_calls.specs.Locks.{lock_of}
use Rattle.psos_calls.specs.Locks.Held.{is_held, may_take}
use Rattle.psos_calls.specs.Plan.{Plan, Close, Ask}
use Rattle.psos_calls.specs.Plan.Requests.{plan_of}
use Rattle.psos_calls.specs.Plan.Trace.{followed, next_of}
use Rattle.psos_calls.specs.Language.Tests.{if_there}
use Rattle.psos_model.specs.Run.{is_open, is_now, earlier, phase_of, is_left, has_left, current_phase}
use Rattle.psos_model.specs.Events.{CoreState, Event, locks_of, trace_of, plan_left, event_for, event_of, may_happen, is_enabled}
use Rattle.psos_model.specs.Events as events
use Rattle.psos_model.proofs.RequestsLeft.{fails}
use Rattle.psos_events.proofs.LockHolders.{by_set}
use Rattle.psos_events.proofs.ReplayInvariant.{set_at}
use Rattle.psos_core.specs.declared.upcoming.Upcoming.{Upcoming}
use Rattle.psos_core.specs.declared.upcoming.Upcoming.TheVariants as upcoming
use Rattle.psos_core.proofs.UserSlots.{found_there}
use Rattle.psos_core.specs.Least.{least}
use Rattle.psos_core.specs.Plans.{next_after, next_for, IsLeveled, call_in, closes, may_go, Tells, known_of, is_known, AreKnown, IsPlanned}

-- ---- the event is the one that the plan tells

module _ (s : Script) (c : CoreState) (u : ℕ) where
  abbrev pub event : Next → Event
  event next = event_for (length s.users) (locks_of c u) next

  by_request : (x : User) (o : Option Request) → option_map (λ (plan : Plan). event (next_of plan)) (option_map (λ (r : Request). followed (plan_of x r) (trace_of c u)) o)
      ≡ option_map event (option_map (λ (r : Request). next_of (followed (plan_of x r) (trace_of c u))) o)
  by_request x None = refl
  by_request x (Some r) = refl

  by_user : (o : Option User) → option_map (λ (plan : Plan). event (next_of plan)) (option_and_then (plan_left s c u) o) ≡ option_map event (option_and_then (λ (x : User). next_after s x (trace_of c u)) o)
  by_user None = refl
  by_user (Some x) = by_request x (next_request s x)

  pub event_is : has_left s c.users u ≡ true → event_of s c u ≡ option_map event (next_for s c u)
  event_is left =
      ap (λ (b : Bool). cond b (option_map (λ (plan : Plan). event (next_of plan)) (option_and_then (plan_left s c u) (slice_get c.users u))) None) left
      ∙ by_user (slice_get c.users u)

  -- and it is enabled where a request is left, and the plan may go on
  by_lock : (call : LevelCall) (b : Bool) → may_happen c u (Some (cond b (events.Call call) (events.Take (lock_of (length s.users) call)))) ≡ (b || may_take c.held (locks_of c u) (lock_of (length s.users) call))
  by_lock call true = refl
  by_lock call false = refl

  by_next : (o : Option Next) → may_happen c u (option_map event o) ≡ may_go (length s.users) c.held u o
  by_next None = refl
  by_next (Some (nexts.Close reply effect)) = refl
  by_next (Some (nexts.Call level call)) = by_lock call (is_held (locks_of c u) (lock_of (length s.users) call))

  pub enabled_is : is_enabled s c u ≡ (has_left s c.users u && may_go (length s.users) c.held u (next_for s c u))
  enabled_is = by_left (has_left s c.users u) refl
    where
      by_left : (b : Bool) → has_left s c.users u ≡ b → is_enabled s c u ≡ (b && may_go (length s.users) c.held u (next_for s c u))
      by_left false e = ap (λ (b : Bool). may_happen c u (cond b (option_map (λ (plan : Plan). event (next_of plan)) (option_and_then (plan_left s c u) (slice_get c.users u))) None)) e
      by_left true e = ap (may_happen c u) (event_is e) ∙ by_next (next_for s c u)

  -- a call is told with its level
  pub leveled : IsLeveled (next_for s c u)
  leveled = by_owner (slice_get c.users u)
    where
      by_plan : (plan : Plan) → IsLeveled (Some (next_of plan))
      by_plan (Close reply effect) = tt
      by_plan (Ask call go) = refl

      by_asked : (x : User) (o : Option Request) → IsLeveled (option_map (λ (r : Request). next_of (followed (plan_of x r) (trace_of c u))) o)
      by_asked x None = tt
      by_asked x (Some r) = by_plan (followed (plan_of x r) (trace_of c u))

      by_owner : (o : Option User) → IsLeveled (option_and_then (λ (x : User). next_after s x (trace_of c u)) o)
      by_owner None = tt
      by_owner (Some x) = by_asked x (next_request s x)

-- ---- what is asked for

-- a call
pub asked_call : (o : Option Next) (level : Level) (call : LevelCall) → call_in o ≡ Some (level, call) → o ≡ Some (nexts.Call level call)
asked_call None level call e = absurd (none-some (level, call) e)
asked_call (Some (nexts.Call k d)) level call e = ap (λ (p : Level × LevelCall). Some (nexts.Call p.0 p.1)) (same_Some (k, d) (level, call) e)
asked_call (Some (nexts.Close reply effect)) level call e = absurd (none-some (level, call) e)

-- the close
pub record IsClosing (o : Option Next) : Type 0 where
  pub reply : Reply
  pub effect : Effect
  pub is : o ≡ Some (nexts.Close reply effect)

pub asked_close : (users : ℕ) (held : List (List LockId)) (u : ℕ) (o : Option Next) → call_in o ≡ None → may_go users held u o ≡ true → IsClosing o
asked_close users held u None e may = absurd (true≢false (sym may))
asked_close users held u (Some (nexts.Call level call)) e may = absurd (none-some (level, call) (sym e))
asked_close users held u (Some (nexts.Close reply effect)) e may = record { reply = reply; effect = effect; is = refl }

-- ---- what is kept beside the state

-- what stands in a user's place
pub in_place : {X : Type 0} (xs : List X) (u : ℕ) (r d : X) → u < length xs → r ≡ get_or xs u r → r ≡ get_or xs u d
in_place xs u r d below is = is ∙ get_or_from_slice_get xs u (get_or xs u d) r (slice_get-get_or xs u d below)

-- a close is told as one
pub tells_close : (o : Option Next) → closes o ≡ true → Tells upcoming.Close o
tells_close o h = record { nothing = λ e. absurd cc; known = λ next e. absurd cc; close = λ e. h }

-- what is known is told
pub told_is : (up : Upcoming) (o : Option Next) → Tells up o → IsTrue (is_known up) → known_of up ≡ o
told_is upcoming.Nothing o h known = sym (h.nothing refl)
told_is (upcoming.Known next) o h known = sym (h.known next refl)
told_is upcoming.Close o h known = absurd (true≢false (sym known))

-- and what is not is a close
pub still_closes : (up : Upcoming) (o : Option Next) → Tells up o → is_known up ≡ false → IsTrue (closes o)
still_closes upcoming.Nothing o h not = absurd (true≢false not)
still_closes (upcoming.Known next) o h not = absurd (true≢false not)
still_closes upcoming.Close o h not = h.close refl

-- a call that is known is told with its level
pub known_leveled : (up : Upcoming) (o : Option Next) → Tells up o → IsLeveled o → IsLeveled (known_of up)
known_leveled upcoming.Nothing o h level = tt
known_leveled (upcoming.Known next) o h level = subst IsLeveled (h.known next refl) level
known_leveled upcoming.Close o h level = tt

-- a close goes on
pub close_goes : (users : ℕ) (held : List (List LockId)) (u : ℕ) (o : Option Next) → closes o ≡ true → true ≡ may_go users held u o
close_goes users held u None h = absurd (true≢false (sym h))
close_goes users held u (Some (nexts.Call level call)) h = absurd (true≢false (sym h))
close_goes users held u (Some (nexts.Close reply effect)) h = refl

-- user u's plan has gone on, and the others' are as they were
pub planned_on : (s : Script) (c d : CoreState) (nexts : List Upcoming) (phases : List (Option ℕ)) (u : ℕ) (then : Upcoming)
    → length nexts ≡ length s.users → ((v : ℕ) → (v ≡ u → ⊥) → Tells (slice_index_or nexts v upcoming.Nothing) (next_for s c v))
    → length d.users ≡ length s.users → length d.held ≡ length s.users → length d.traces ≡ length s.users → u < length nexts
    → ((v : ℕ) → (v ≡ u → ⊥) → next_for s d v ≡ next_for s c v) → Tells then (next_for s d u) → phases ≡ map (phase_of s) d.users → IsPlanned s d (set nexts u then) phases
planned_on s c d nexts phases u then all others users held traces below apart mine now = record {
  users = users;
  held = held;
  traces = traces;
  all = length-set nexts u then ∙ all;
  each = by_set (λ v up. Tells up (next_for s d v)) (set_at nexts u then upcoming.Nothing below) mine
      (λ v other. subst (Tells (slice_index_or nexts v upcoming.Nothing)) (sym (apart v other)) (others v other));
  phases-are = now;
}

-- and it is known
pub known_on : (nexts : List Upcoming) (u : ℕ) (then : Upcoming) → u < length nexts → ((v : ℕ) → (v ≡ u → ⊥) → IsTrue (is_known (slice_index_or nexts v upcoming.Nothing)))
    → IsTrue (is_known then) → AreKnown (set nexts u then)
known_on nexts u then below others mine = by_set (λ v up. IsTrue (is_known up)) (set_at nexts u then upcoming.Nothing below) mine others

-- another user's plan does the same where its own part and its trace are the same
pub next_same : (s : Script) (c d : CoreState) (v : ℕ) → slice_get d.users v ≡ slice_get c.users v → trace_of d v ≡ trace_of c v → next_for s d v ≡ next_for s c v
next_same s c d v user trace =
    ap (λ (o : Option User). option_and_then (λ (x : User). next_after s x (trace_of d v)) o) user
    ∙ ap (λ (t : List Step). option_and_then (λ (x : User). next_after s x t) (slice_get c.users v)) trace

-- ---- who has a request left

-- the least of all users' phases is the current one
pub least_is : (s : Script) (users : List User) → least (map (phase_of s) users) ≡ current_phase s users
least_is s [] = refl
least_is s (x ∷ others) = ap (earlier (phase_of s x)) (least_is s others)

-- and each stands at its user's place
pub phase_there : (s : Script) (users : List User) (u : ℕ) (x : User) → slice_get users u ≡ Some x → slice_index_or (map (phase_of s) users) u None ≡ phase_of s x
phase_there s [] u x here = absurd (none-some x here)
phase_there s (z ∷ zs) zero x here = ap (phase_of s) (same_Some z x here)
phase_there s (z ∷ zs) (suc u) x here = phase_there s zs u x here

-- by the phases that are kept, and what is found in the user's place
pub left_is : (s : Script) (c : CoreState) (u : ℕ) (slots : List User) (x : User) (phases : List (Option ℕ)) (b : Bool) → slots ≡ c.users → x ≡ get_or slots u x → u < length c.users
    → phases ≡ map (phase_of s) c.users → b ≡ (is_open x.frames || is_now (slice_index_or phases u None) (least phases)) → b ≡ has_left s c.users u
left_is s c u slots x phases b same found below all is =
    let here : slice_get c.users u ≡ Some x = found_there slots c.users u x same found below in
    let G : Option ℕ → Option ℕ → Bool = λ p q. is_open x.frames || is_now p q in
    is
    ∙ (ap (λ (ps : List (Option ℕ)). G (slice_index_or ps u None) (least ps)) all
    ∙ (ap (λ (p : Option ℕ). G p (least (map (phase_of s) c.users))) (phase_there s c.users u x here)
    ∙ (ap (G (phase_of s x)) (least_is s c.users)
    ∙ sym (ap (λ (o : Option User). if_there o false (λ (z : User). is_left s c.users z)) here))))

-- nobody has
pub none_is : (s : Script) (users slots : List User) (phase : Option ℕ) (b : Bool) → slots ≡ users → phase ≡ current_phase s users
    → b ≡ list_all (λ (x : User). not (is_open x.frames || is_now (phase_of s x) phase)) slots → b ≡ list_all (fails (is_left s users)) users
none_is s users slots phase b same now is =
    is
    ∙ (ap (λ (o : Option ℕ). list_all (λ (x : User). not (is_open x.frames || is_now (phase_of s x) o)) slots) now
    ∙ ap (list_all (fails (is_left s users))) same)

-- ---- what follows where a call went well, and where not

-- what is ensured of an error holds of it
pub from_err : {T E : Type 0} (r : Result T E) (e : E) (P : E → Type 0) → r ≡ Err e → IfErr r P → P e
from_err (Ok x) e P is h = absurd cc
from_err {T} {E} (Err d) e P is h = (let same : d ≡ e = cc in subst P same h)

-- of an error that was passed on too
pub err_on : {T E : Type 0} (r : Result T E) (e : E) (P : E → Type 0) → IsErrAnd r (λ d. d ≡ e) → P e → IfErr r P
err_on (Ok x) e P is h = tt
err_on (Err d) e P is h = subst P (sym is) h

-- what holds anyway is ensured of an error
pub on_err : {T E : Type 0} (r : Result T E) {P : Type 0} → P → OnErr r P
on_err (Ok x) h = tt
on_err (Err e) h = h

pub if_ok : {T E : Type 0} (r : Result T E) {P Q : Type 0} → (P → Q) → OnOk r P → OnOk r Q
if_ok (Ok x) go h = go h
if_ok (Err e) go h = tt
