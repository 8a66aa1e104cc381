-- An open trace depends only on what lies under the locks of its calls.
use Rattle.std.proofs.Common.{◌≡◌, ℕ, ◌<◌, ◌≤◌, Bool, true, false, List, [], ◌∷◌, ◌++◌, length, refl, sym, ap, ◌∙◌, subst, arith}
use Rattle.std.proofs.lemmas.Bool.{true≢false, or_right}
use Rattle.psos_calls.specs.declared.lock_id.LockId.{LockId}
use Rattle.psos_calls.specs.declared.step.Step.{Step}
use Rattle.psos_calls.specs.declared.reply.Reply.{Reply}
use Rattle.psos_calls.specs.declared.effect.Effect.{Effect}
use Rattle.psos_calls.specs.Levels.Answers.{LevelAnswer}
use Rattle.psos_calls.specs.Levels.Calls.{LevelCall}
use Rattle.psos_calls.specs.declared.level_call.LevelCall.TheVariants.{Fresh}
use Rattle.psos_calls.specs.Levels.{Levels, level_of, act}
use Rattle.psos_calls.specs.Locks.Held.{same_lock, is_lock, is_held}
use Rattle.psos_calls.specs.Locks.{lock_of}
use Rattle.psos_calls.specs.Plan.{Plan, Close, Ask, PlanRun, run_plan}
use Rattle.psos_calls.specs.Plan.Trace.{followed, IsTraceOf, calls_in}
use Rattle.psos_model.specs.Events.Serial.{traced}
use Rattle.psos_events.proofs.MailboxRows.{NoOthers}
use Rattle.psos_events.proofs.LockScope.{Same, stays_same, same_back, same_then, same_lock_is, acts_alike, others_stay, no_strangers}

-- ---- held locks

-- what is held and what is not are two locks
pub apart_by_held : (locks : List LockId) (a b : LockId) → is_held locks a ≡ false → is_held locks b ≡ true → same_lock a b ≡ false
apart_by_held locks a b free held = by_test (same_lock a b) refl
  where
    by_test : (t : Bool) → same_lock a b ≡ t → t ≡ false
    by_test false e = refl
    by_test true e = absurd (true≢false (sym held ∙ (ap (is_held locks) (sym (same_lock_is a b e)) ∙ free)))

-- the locks of a holder are locks
pub record AreLocks (users : ℕ) (locks : List LockId) : Type 0 where
  pub some : 0 < users
  pub each : (k : LockId) → is_held locks k ≡ true → is_lock users k ≡ true

-- each call of the trace is under a lock that is held
abbrev pub Covers : ℕ → List LockId → List Step → Type 0
Covers users locks [] = Unit {0}
Covers users locks (t ∷ trace) = (is_held locks (lock_of users t.call) ≡ true) × Covers users locks trace

pub covers_more : (users : ℕ) (locks : List LockId) (trace : List Step) (t : Step) → Covers users locks trace → is_held locks (lock_of users t.call) ≡ true → Covers users locks (trace ++ t ∷ [])
covers_more users locks [] t h held = (held, tt)
covers_more users locks (q ∷ trace) t h held = (h.0, covers_more users locks trace t h.1 held)

pub covers_wider : (users : ℕ) (k : LockId) (locks : List LockId) (trace : List Step) → Covers users locks trace → Covers users (k ∷ locks) trace
covers_wider users k locks [] h = tt
covers_wider users k locks (q ∷ trace) h = (or_right (same_lock k (lock_of users q.call)) (is_held locks (lock_of users q.call)) h.0, covers_wider users k locks trace h.1)

-- ---- the levels after a trace

pub traced_more : (l : Levels) (trace : List Step) (t : Step) → traced l (trace ++ t ∷ []) ≡ (act (traced l trace) t.call).0
traced_more l [] t = refl
traced_more l (q ∷ trace) t = traced_more (act l q.call).0 trace t

pub traced_strangers : (users : ℕ) (l : Levels) (trace : List Step) → NoOthers users l.boxes → NoOthers users (traced l trace).boxes
traced_strangers users l [] h = h
traced_strangers users l (t ∷ trace) h = traced_strangers users (act l t.call).0 trace (no_strangers users l t.call h)

-- what lies under a lock that is not held stays
pub traced_stays : (users : ℕ) (locks : List LockId) (l : Levels) (trace : List Step) (k : LockId) → 0 < users → Covers users locks trace
    → is_lock users k ≡ true → is_held locks k ≡ false → Same k (traced l trace) l
traced_stays users locks l [] k some h lock free = stays_same k l
traced_stays users locks l (t ∷ trace) k some h lock free =
    same_then (traced_stays users locks (act l t.call).0 trace k some h.1 lock free)
    (others_stay users some l t.call k lock (apart_by_held locks k (lock_of users t.call) free h.0))

-- ---- two states that a holder cannot tell apart

pub record Seen (users : ℕ) (locks : List LockId) (a b : Levels) : Type 0 where
  pub under : (k : LockId) → is_held locks k ≡ true → Same k a b
  pub first : NoOthers users a.boxes
  pub second : NoOthers users b.boxes

-- a call under a lock that is held leaves two such states
pub seen_after : (users : ℕ) (locks : List LockId) (a b : Levels) (call : LevelCall) → AreLocks users locks → is_held locks (lock_of users call) ≡ true
    → Seen users locks a b → Seen users locks (act a call).0 (act b call).0
seen_after users locks a b call are held h = record {
  under = λ k mine. by_test k mine (same_lock k (lock_of users call)) refl;
  first = no_strangers users a call h.first;
  second = no_strangers users b call h.second;
}
  where
    by_test : (k : LockId) → is_held locks k ≡ true → (t : Bool) → same_lock k (lock_of users call) ≡ t → Same k (act a call).0 (act b call).0
    by_test k mine true e =
        subst (λ (x : LockId). Same x (act a call).0 (act b call).0) (sym (same_lock_is k (lock_of users call) e))
        (acts_alike users a b call h.first h.second (h.under (lock_of users call) held)).same
    by_test k mine false e =
        same_then (others_stay users are.some a call k (are.each k mine) e)
        (same_then (h.under k mine) (same_back (others_stay users are.some b call k (are.each k mine) e)))

pub seen_traced : (users : ℕ) (locks : List LockId) (a b : Levels) (trace : List Step) → AreLocks users locks → Covers users locks trace
    → Seen users locks a b → Seen users locks (traced a trace) (traced b trace)
seen_traced users locks a b [] are h seen = seen
seen_traced users locks a b (t ∷ trace) are h seen = seen_traced users locks (act a t.call).0 (act b t.call).0 trace are h.1 (seen_after users locks a b t.call are h.0 seen)

-- a call that was made, with its answer
abbrev pub step_of : Levels → LevelCall → Step
step_of l call = record { level = level_of call; call = call; answer = (act l call).1 }

-- a trace of one is a trace of the other
pub trace_seen : (users : ℕ) (locks : List LockId) (plan : Plan) (a b : Levels) (trace : List Step) → AreLocks users locks → Covers users locks trace
    → Seen users locks a b → IsTraceOf plan a trace → IsTraceOf plan b trace
trace_seen users locks plan a b [] are h seen is = tt
trace_seen users locks (Close reply effect) a b (t ∷ trace) are h seen is = is
trace_seen users locks (Ask call go) a b (t ∷ trace) are h seen is =
    let held : is_held locks (lock_of users call) ≡ true = ap (λ (q : Step). is_held locks (lock_of users q.call)) (sym is.0) ∙ h.0 in
    let answers = (acts_alike users a b call seen.first seen.second (seen.under (lock_of users call) held)).answer in
    let rest = trace_seen users locks (go (act a call).1) (act a call).0 (act b call).0 trace are h.1 (seen_after users locks a b call are held seen) is.1 in (
      is.0 ∙ ap (λ (x : LevelAnswer). (let q : Step = record { level = level_of call; call = call; answer = x } in q)) answers,
      subst (λ (x : LevelAnswer). IsTraceOf (go x) (act b call).0 trace) answers rest,
    )

-- ---- one call more, and the close

abbrev call_in : Plan → LevelCall
call_in (Close reply effect) = Fresh
call_in (Ask call go) = call

abbrev asks_more : Plan → Bool
asks_more (Close reply effect) = false
asks_more (Ask call go) = true

-- the call that comes next, made, makes a longer trace
pub trace_more : (plan : Plan) (l : Levels) (trace : List Step) (call : LevelCall) (go : LevelAnswer → Plan) → followed plan trace ≡ Ask call go
    → IsTraceOf plan l trace → IsTraceOf plan l (trace ++ step_of (traced l trace) call ∷ [])
trace_more (Close reply effect) l trace call go e is = absurd (true≢false (sym (ap asks_more e)))
trace_more (Ask c next) l [] call go e is = (ap (λ (p : Plan). step_of l (call_in p)) (sym e), tt)
trace_more (Ask c next) l (t ∷ trace) call go e is =
    let after : (act l t.call).0 ≡ (act l c).0 = ap (λ (q : Step). (act l q.call).0) is.0 in
    let left : followed (next (act l c).1) trace ≡ Ask call go = ap (λ (q : Step). followed (next q.answer) trace) (sym is.0) ∙ e in
    let P : Levels → Type 0 = λ m. IsTraceOf (next (act l c).1) (act l c).0 (trace ++ step_of (traced m trace) call ∷ []) in
    (is.0, subst P (sym after) (trace_more (next (act l c).1) (act l c).0 trace call go left is.1))

pub followed_none : (plan : Plan) → followed plan [] ≡ plan
followed_none (Close reply effect) = refl
followed_none (Ask call go) = refl

pub followed_more : (plan : Plan) (trace : List Step) (call : LevelCall) (go : LevelAnswer → Plan) (t : Step) → followed plan trace ≡ Ask call go
    → followed plan (trace ++ t ∷ []) ≡ go t.answer
followed_more (Close reply effect) trace call go t e = absurd (true≢false (sym (ap asks_more e)))
followed_more (Ask c next) [] call go t e = ap (λ (p : Plan). followed p (t ∷ [])) e ∙ followed_none (go t.answer)
followed_more (Ask c next) (q ∷ trace) call go t e = followed_more (next q.answer) trace call go t e

-- where the plan closes the trace is its whole run
pub trace_whole : (plan : Plan) (l : Levels) (trace : List Step) (reply : Reply) (effect : Effect) → followed plan trace ≡ Close reply effect
    → IsTraceOf plan l trace → run_plan plan l ≡ record { levels = traced l trace; calls = calls_in trace; reply = reply; effect = effect }
trace_whole (Close r x) l [] reply effect e is = ap (λ (p : Plan). run_plan p l) e
trace_whole (Close r x) l (t ∷ trace) reply effect e is = absurd is
trace_whole (Ask c next) l [] reply effect e is = absurd (true≢false (ap asks_more e))
trace_whole (Ask c next) l (t ∷ trace) reply effect e is =
    let left : followed (next (act l c).1) trace ≡ Close reply effect = ap (λ (q : Step). followed (next q.answer) trace) (sym is.0) ∙ e in
    let rest = trace_whole (next (act l c).1) (act l c).0 trace reply effect left is.1 in
    ap (λ (r : PlanRun). (let q : PlanRun = record r { calls = (level_of c, c) ∷ r.calls } in q)) rest
    ∙ ap (λ (q : Step). (let r : PlanRun = record { levels = traced (act l q.call).0 trace; calls = (q.level, q.call) ∷ calls_in trace; reply = reply; effect = effect } in r)) (sym is.0)

-- it has no more calls than that run
pub trace_within : (plan : Plan) (l : Levels) (trace : List Step) → IsTraceOf plan l trace → length trace ≤ length (run_plan plan l).calls
trace_within plan l [] is = omega arith
trace_within (Close reply effect) l (t ∷ trace) is = absurd is
trace_within (Ask call go) l (t ∷ trace) is = omega (arith, trace_within (go (act l call).1) (act l call).0 trace is.1)
