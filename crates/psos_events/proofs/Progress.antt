-- While a user has a request left, some user's event is enabled. States docs/levels.md, "Locks".
use Rattle.std.proofs.Common.{◌≡◌, ℕ, zero, suc, ◌<◌, ◌&&◌, ◌⊎◌, not, Bool, true, false, List, [], ◌∷◌, ◌++◌, length, get_or, Option, Some, None, refl, sym, ap, ◌∙◌, inl, inr, subst, arith}
use Rattle.std.specs.Prelude.{slice_get, nat_lt, IsTrue}
use Rattle.std.proofs.lemmas.Bool.{true≢false, and_parts, and_from, or_cases, ltb-true}
use Rattle.psos_calls.specs.declared.frame.Frame.{Frame}
use Rattle.psos_calls.specs.declared.lock_id.LockId.{LockId}
use Rattle.psos_calls.specs.declared.request.Request.{Request}
use Rattle.psos_calls.specs.declared.reply.Reply.{Reply}
use Rattle.psos_calls.specs.declared.effect.Effect.{Effect}
use Rattle.psos_calls.specs.declared.step.Step.{Step}
use Rattle.psos_calls.specs.Levels.Answers.{LevelAnswer}
use Rattle.psos_calls.specs.Levels.Calls.{LevelCall}
use Rattle.psos_calls.specs.Language.Script.{Script, requests_of, user_script, body_of}
use Rattle.psos_calls.specs.Language.Tests.{if_there}
use Rattle.psos_calls.specs.Language.User.{User, next_in, next_request, after}
use Rattle.psos_calls.specs.Locks.Held.{rank, same_lock, is_held, is_free, are_earlier}
use Rattle.psos_calls.specs.Locks.{lock_of}
use Rattle.psos_calls.specs.Plan.{Plan, Close, Ask}
use Rattle.psos_calls.specs.Plan.Requests.{plan_of}
use Rattle.psos_calls.specs.Plan.Trace.{followed}
use Rattle.psos_model.specs.Flat.{Flat}
use Rattle.psos_model.specs.Sound.Users.{HasLine}
use Rattle.psos_model.specs.Run.{is_left, has_left}
use Rattle.psos_model.specs.Replay.{System}
use Rattle.psos_model.specs.Events.{CoreState, Event, Take, Call, locks_of, trace_of, core_of, called, closed, happened, may_happen, event_of, is_enabled, core_step, core_after, AreEnabled}
use Rattle.psos_model.specs.Events as core
use Rattle.psos_model.specs.Events.Serial.{IsCoreStart, NeverStuck}
use Rattle.psos_laws.proofs.AnswerProgress.{pick}
use Rattle.psos_laws.proofs.UnchangedPlaces.{set_apart}
use Rattle.psos_laws.proofs.RequestsLeft.{left_within, has_user}
use Rattle.psos_events.proofs.LockScope.{same_lock_is}
use Rattle.psos_events.proofs.OpenTraces.{step_of, followed_none, followed_more}
use Rattle.psos_events.proofs.LockHolders.{IsSet, by_set}
use Rattle.psos_events.proofs.EventMoves.{IsAsking, by_event}
use Rattle.psos_events.proofs.ReplayInvariant.{HasDone, set_at, below, same_trace, nothing_held, nothing_open, nothing_at, begins, event_keeps, stands_now}
use Rattle.psos_events.proofs.LockOrder.{AreInOrder, IsFalling, plan_falls, falls_later, falls_taken, falls_called}
use Rattle.psos_events.proofs.RequestsLeft.{left_stays}

-- ---- what no event breaks

-- who holds a lock has a request left, its locks were taken in the falling order, and what is left of its plan falls
pub record CanGoOn (s : Script) (c : CoreState) : Type 0 where
  pub holders : (u : ℕ) (k : LockId) → is_held (locks_of c u) k ≡ true → has_left s c.users u ≡ true
  pub in_order : (u : ℕ) → AreInOrder (locks_of c u)
  pub falling : (u : ℕ) (x : User) (request : Request) → slice_get c.users u ≡ Some x → next_request s x ≡ Some request → IsFalling (length s.users) (locks_of c u) (followed (plan_of x request) (trace_of c u))

-- what is left before a call is its whole plan
falls_first : (users : ℕ) (x : User) (request : Request) → IsFalling users [] (followed (plan_of x request) [])
falls_first users x request = subst (IsFalling users []) (sym (followed_none (plan_of x request))) (plan_falls x request)

at_start : (s : Script) (y : System) → CanGoOn s (core_of y)
at_start s y = record {
  holders = λ u k e. absurd (true≢false (sym e ∙ ap (λ (locks : List LockId). is_held locks k) (nothing_at (length y.users) u)));
  in_order = λ u. subst (λ (locks : List LockId). AreInOrder locks) (sym (nothing_at (length y.users) u)) tt;
  falling = λ u x request here asks.
      subst (λ (locks : List LockId). IsFalling (length s.users) locks (followed (plan_of x request) (trace_of (core_of y) u))) (sym (nothing_at (length y.users) u))
      (subst (λ (trace : List Step). IsFalling (length s.users) [] (followed (plan_of x request) trace)) (sym (nothing_at (length y.users) u)) (falls_first (length s.users) x request));
}

module _ (s : Script) (y : System) (f : Flat) (start : IsCoreStart s y f) (c : CoreState) (h : HasDone s y f c) (g : CanGoOn s c) (u : ℕ) (x : User) (request : Request) (is : IsAsking s c u x request) where
  module _ (call : LevelCall) (go : LevelAnswer → Plan) (next : followed (plan_of x request) (trace_of c u) ≡ Ask call go) where
    falls_now : IsFalling (length s.users) (locks_of c u) (Ask call go)
    falls_now = subst (IsFalling (length s.users) (locks_of c u)) next (g.falling u x request is.here is.asks)

    take_goes_on : is_held (locks_of c u) (lock_of (length s.users) call) ≡ false → CanGoOn s (happened s c u (Take (lock_of (length s.users) call)))
    take_goes_on other =
        let n = length s.users in
        let k = lock_of n call in
        let taken : IsSet (λ v. locks_of c v) (λ v. locks_of (happened s c u (Take k)) v) u (k ∷ locks_of c u) =
        set_at c.held u (k ∷ locks_of c u) [] (subst (λ (n : ℕ). u < n) (sym h.held_all) (below s y f start c h u x request is)) in
        let mine : IsFalling n (k ∷ locks_of c u) (followed (plan_of x request) (trace_of c u)) = subst (IsFalling n (k ∷ locks_of c u)) (sym next) (falls_taken falls_now other) in
        let ordered : AreInOrder (k ∷ locks_of c u) = (falls_later falls_now other, g.in_order u) in
        record {
          holders = by_set (λ v locks. (j : LockId) → is_held locks j ≡ true → has_left s c.users v ≡ true) taken (λ j e. is.left) (λ v apart j e. g.holders v j e);
          in_order = by_set (λ v locks. AreInOrder locks) taken ordered (λ v apart. g.in_order v);
          falling = by_set (λ v locks. (z : User) (r : Request) → slice_get c.users v ≡ Some z → next_request s z ≡ Some r → IsFalling n locks (followed (plan_of z r) (trace_of c v))) taken
              (same_trace s y f start c h u x request is (λ z r. IsFalling n (k ∷ locks_of c u) (followed (plan_of z r) (trace_of c u))) mine) (λ v apart. g.falling v);
        }

    call_goes_on : is_held (locks_of c u) (lock_of (length s.users) call) ≡ true → CanGoOn s (happened s c u (Call call))
    call_goes_on held =
        let n = length s.users in
        let t = step_of c.levels call in
        let made : IsSet (λ v. trace_of c v) (λ v. trace_of (called c u call) v) u (trace_of c u ++ t ∷ []) =
        set_at c.traces u (trace_of c u ++ t ∷ []) [] (subst (λ (n : ℕ). u < n) (sym h.traces_all) (below s y f start c h u x request is)) in
        let mine : IsFalling n (locks_of c u) (followed (plan_of x request) (trace_of c u ++ t ∷ [])) =
        subst (IsFalling n (locks_of c u)) (sym (followed_more (plan_of x request) (trace_of c u) call go t next)) (falls_called falls_now held t.answer) in
        record {
          holders = g.holders;
          in_order = g.in_order;
          falling = by_set (λ v steps. (z : User) (r : Request) → slice_get c.users v ≡ Some z → next_request s z ≡ Some r → IsFalling n (locks_of c v) (followed (plan_of z r) steps)) made
              (same_trace s y f start c h u x request is (λ z r. IsFalling n (locks_of c u) (followed (plan_of z r) (trace_of c u ++ t ∷ []))) mine) (λ v apart. g.falling v);
        }

  module _ (reply : Reply) (effect : Effect) (over : followed (plan_of x request) (trace_of c u) ≡ Close reply effect) where
    abbrev left_over : CoreState
    left_over = closed s c u reply effect x

    held_none : IsSet (λ v. locks_of c v) (λ v. locks_of left_over v) u []
    held_none = nothing_held s y f start c h u x request is reply effect over

    open_none : IsSet (λ v. trace_of c v) (λ v. trace_of left_over v) u []
    open_none = nothing_open s y f start c h u x request is reply effect over

    closed_goes_on : CanGoOn s left_over
    closed_goes_on = record {
      holders = by_set (λ v locks. (j : LockId) → is_held locks j ≡ true → has_left s left_over.users v ≡ true) held_none
          (λ j e. absurd (true≢false (sym e))) (λ v apart j e. left_stays s c.users u x is.here effect v apart (g.holders v j e));
      in_order = by_set (λ v locks. AreInOrder locks) held_none tt (λ v apart. g.in_order v);
      falling = by_set (λ v steps. (z : User) (r : Request) → slice_get left_over.users v ≡ Some z → next_request s z ≡ Some r → IsFalling (length s.users) (locks_of left_over v) (followed (plan_of z r) steps)) open_none
          (λ z r here asks. subst (λ (locks : List LockId). IsFalling (length s.users) locks (followed (plan_of z r) [])) (sym held_none.here) (falls_first (length s.users) z r))
          (λ v apart z r here asks. subst (λ (locks : List LockId). IsFalling (length s.users) locks (followed (plan_of z r) (trace_of c v))) (sym (held_none.others v apart))
          (g.falling v z r (sym (set_apart c.users u v (after s x effect) apart) ∙ here) asks));
    }

    close_goes_on : CanGoOn s (happened s c u (core.Close reply effect))
    close_goes_on = subst (CanGoOn s) (sym (ap (λ (o : Option User). if_there o c (closed s c u reply effect)) is.here)) closed_goes_on

event_goes_on : (s : Script) (y : System) (f : Flat) → IsCoreStart s y f → (c : CoreState) → HasDone s y f c → CanGoOn s c → (u : ℕ) → CanGoOn s (core_step s c u)
event_goes_on s y f start c h g u = by_event s c u (λ o. CanGoOn s (if_there o c (happened s c u)))
    (λ idle. g)
    (λ x request reply effect is over. close_goes_on s y f start c h g u x request is reply effect over)
    (λ x request call go is next mine. call_goes_on s y f start c h g u x request is call go next mine)
    (λ x request call go is next other. take_goes_on s y f start c h g u x request is call go next other)

-- ---- who has a request left has an event

pub record Asks (s : Script) (c : CoreState) (u : ℕ) : Type 0 where
  pub user : User
  pub request : Request
  pub is : IsAsking s c u user request

asks_in : (s : Script) (users : List User) (x : User) (frames : List Frame) → x.frames ≡ frames → HasLine s frames → is_left s users x ≡ true → (r : Request) × (next_in s x frames ≡ Some r)
asks_in s users x [] none line left = pick (requests_of (user_script s x.number)) x.answered (left_within s users x none left)
asks_in s users x (q ∷ outer) some line left = pick (body_of s q.label) q.line line

pub asks_now : (s : Script) (y : System) (f : Flat) → IsCoreStart s y f → (c : CoreState) → HasDone s y f c → (u : ℕ) → has_left s c.users u ≡ true → Asks s c u
asks_now s y f start c h u left = by_user (slice_get c.users u) refl
  where
    by_user : (o : Option User) → slice_get c.users u ≡ o → Asks s c u
    by_user None e = absurd (true≢false (sym left ∙ ap (λ (o : Option User). if_there o false (λ x. is_left s c.users x)) e))
    by_user (Some x) e =
        let now = stands_now s y f c start h in
        let same = h.users ∙ now.stands.users in
        let sound = now.sound.users u x (ap (λ (us : List User). slice_get us u) (sym same) ∙ e) in
        let one = asks_in s c.users x x.frames refl sound.line (has_user s c.users u x e left) in
        record { user = x; request = one.0; is = record { left = left; here = e; asks = one.1 } }

-- ---- a lock that is held

record IsHeldBy (held : List (List LockId)) (k : LockId) : Type 0 where
  user : ℕ
  holds : is_held (get_or held user []) k ≡ true

holder_of : (held : List (List LockId)) (k : LockId) → is_free held k ≡ false → IsHeldBy held k
holder_of [] k e = absurd (true≢false e)
holder_of (locks ∷ held) k e = by_test (holder_of held k) (is_held locks k) refl
  where
    by_test : (is_free held k ≡ false → IsHeldBy held k) → (b : Bool) → is_held locks k ≡ b → IsHeldBy (locks ∷ held) k
    by_test others true first = record { user = zero; holds = first }
    by_test others false first =
        let rest = others (sym (ap (λ (b : Bool). not b && is_free held k) first) ∙ e) in
        record { user = suc rest.user; holds = rest.holds }

-- what may be taken is later than what is held
later_than : (locks : List LockId) (j k : LockId) → are_earlier locks k ≡ true → is_held locks j ≡ true → rank k.level < rank j.level
later_than [] j k e mine = absurd (true≢false (sym mine))
later_than (q ∷ locks) j k e mine =
    let both = and_parts (nat_lt (rank k.level) (rank q.level)) (are_earlier locks k) e in
    elim (or_cases (same_lock q j) (is_held locks j) mine) [
      | inl same ↦ subst (λ (x : LockId). rank k.level < rank x.level) (same_lock_is q j same) (ltb-true (rank k.level) (rank q.level) both.0)
      | inr old ↦ later_than locks j k both.1 old
    ]

-- ---- nobody waits for ever

-- user u waits for a lock that is later than all it holds, and that is held
record IsWaiting (c : CoreState) (u : ℕ) : Type 0 where
  lock : LockId
  later : are_earlier (locks_of c u) lock ≡ true
  by : IsHeldBy c.held lock

record SomeEnabled (s : Script) (c : CoreState) : Type 0 where
  user : ℕ
  may : IsTrue (is_enabled s c user)

module _ (s : Script) (y : System) (f : Flat) (start : IsCoreStart s y f) (c : CoreState) (h : HasDone s y f c) (g : CanGoOn s c) where
  -- who has a request left may go on, or waits
  goes_or_waits : (u : ℕ) → has_left s c.users u ≡ true → IsTrue (is_enabled s c u) ⊎ IsWaiting c u
  goes_or_waits u left = by_event s c u (λ o. IsTrue (may_happen c u o) ⊎ IsWaiting c u)
      (λ idle. let a = asks_now s y f start c h u left in absurd (idle a.user a.request a.is))
      (λ x request reply effect is over. inl refl)
      (λ x request call go is next mine. inl refl)
      (λ x request call go is next other. by_free (lock_of (length s.users) call) (falls_later (falls_now s y f start c h g u x request is call go next) other) (is_free c.held (lock_of (length s.users) call)) refl)
    where
      by_free : (k : LockId) → are_earlier (locks_of c u) k ≡ true → (b : Bool) → is_free c.held k ≡ b → IsTrue (may_happen c u (Some (Take k))) ⊎ IsWaiting c u
      by_free k later true free = inl (and_from (is_free c.held k) (are_earlier (locks_of c u) k) free later)
      by_free k later false taken = inr (record { lock = k; later = later; by = holder_of c.held k taken })

  -- whoever holds the lock may go on, or waits for a later one
  follow : (n u : ℕ) → (w : IsWaiting c u) → rank w.lock.level < n → SomeEnabled s c
  follow zero u w few = absurd (omega (arith, few))
  follow (suc n) u w few = elim (goes_or_waits w.by.user (g.holders w.by.user w.lock w.by.holds)) [
    | inl may ↦ record { user = w.by.user; may = may }
    | inr next ↦ follow n w.by.user next (omega (arith, few, later_than (locks_of c w.by.user) w.lock next.lock next.later w.by.holds))
  ]

  some_enabled : (u : ℕ) → has_left s c.users u ≡ true → SomeEnabled s c
  some_enabled u left = elim (goes_or_waits u left) [
    | inl may ↦ record { user = u; may = may }
    | inr next ↦ follow (suc (rank next.lock.level)) u next (omega arith)
  ]

-- ---- after any events

pub record StillGoes (s : Script) (y : System) (f : Flat) (c : CoreState) : Type 0 where
  pub done : HasDone s y f c
  pub goes : CanGoOn s c

still_goes : (s : Script) (y : System) (f : Flat) → IsCoreStart s y f → (us : List ℕ) (c : CoreState) → StillGoes s y f c → AreEnabled s c us → StillGoes s y f (core_after s c us)
still_goes s y f start [] c h may = h
still_goes s y f start (u ∷ us) c h may =
    still_goes s y f start us (core_step s c u) (record { done = event_keeps s y f start c h.done u may.0; goes = event_goes_on s y f start c h.done h.goes u }) may.1

-- from a start
pub from_start : (s : Script) (y : System) (f : Flat) (us : List ℕ) → IsCoreStart s y f → AreEnabled s (core_of y) us → StillGoes s y f (core_after s (core_of y) us)
from_start s y f us start may = still_goes s y f start us (core_of y) (record { done = begins s y f start; goes = at_start s y }) may

pub never_stuck : NeverStuck
never_stuck s y f us start may u left =
    let h = from_start s y f us start may in
    let one = some_enabled s y f start (core_after s (core_of y) us) h.done h.goes u left in
    (one.user, one.may)
