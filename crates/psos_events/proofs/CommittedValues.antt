-- What is committed to a lock is what lay under it when it was last free. States docs/levels.md, "Locks".
use Rattle.std.proofs.Common.{◌≡◌, ℕ, zero, suc, not, Bool, true, false, cond, List, [], ◌∷◌, length, get_or, Option, refl, sym, ap, ◌∙◌, subst}
use Rattle.std.proofs.lemmas.Bool.{true≢false, and_from}
use Rattle.psos_calls.specs.declared.lock_id.LockId.{LockId}
use Rattle.psos_calls.specs.declared.request.Request.{Request}
use Rattle.psos_calls.specs.declared.reply.Reply.{Reply}
use Rattle.psos_calls.specs.declared.effect.Effect.{Effect}
use Rattle.psos_calls.specs.Language.Script.{Script}
use Rattle.psos_calls.specs.Language.Tests.{if_there}
use Rattle.psos_calls.specs.Language.User.{User}
use Rattle.psos_calls.specs.Levels.{Levels}
use Rattle.psos_calls.specs.Locks.Held.{is_lock, is_held, is_free}
use Rattle.psos_calls.specs.Plan.{Close}
use Rattle.psos_calls.specs.Plan.Requests.{plan_of}
use Rattle.psos_calls.specs.Plan.Trace.{followed}
use Rattle.psos_model.specs.Flat.{Flat}
use Rattle.psos_model.specs.Replay.{System, replay_step, replay_from, order_of}
use Rattle.psos_model.specs.Events.{CoreState, locks_of, trace_of, core_of, entry_of, closed, happened, event_of, core_step, core_after, AreEnabled}
use Rattle.psos_model.specs.Events.Serial.{committed, IsCoreStart}
use Rattle.psos_events.specs.Committed.{if_free, last_free, committed_by, CommittedWasFree, ClosesCommit, OthersCommitElsewhere}
use Rattle.psos_events.proofs.LockScope.{Same, stays_same, same_back, same_then}
use Rattle.psos_events.proofs.OpenTraces.{traced_stays}
use Rattle.psos_events.proofs.LockHolders.{IsLeft, by_set, not_held}
use Rattle.psos_model.proofs.Orders.{order_more, replay_more}
use Rattle.psos_events.proofs.EventMoves.{IsAsking, by_event}
use Rattle.psos_events.proofs.ReplayInvariant.{HasDone, free_left, begins, nothing_held, now, event_keeps, has_done}

-- ---- what an event commits

module _ (s : Script) (y : System) (c : CoreState) (u : ℕ) where
  one_closes : (x : User) (reply : Reply) (effect : Effect) → committed s y (closed s c u reply effect x) ≡ (replay_step s (committed s y c) u).0
  one_closes x reply effect = ap (replay_from s y) (order_more c.entries (entry_of c u x reply)) ∙ replay_more s y (order_of c.entries) u

  commits : committed s y (core_step s c u) ≡ committed_by s (committed s y c) u (event_of s c u)
  commits = by_event s c u (λ o. committed s y (if_there o c (happened s c u)) ≡ committed_by s (committed s y c) u o)
      (λ idle. refl)
      (λ x request reply effect is over.
      subst (λ (o : Option User). committed s y (if_there o c (closed s c u reply effect)) ≡ (replay_step s (committed s y c) u).0) (sym is.here) (one_closes x reply effect))
      (λ x request call go is next mine. refl)
      (λ x request call go is next other. refl)

pub closes_commit : ClosesCommit
closes_commit s y c u = commits s y c u

-- ---- locks that are free

-- a lock that no user holds is free
left_free : (held : List (List LockId)) (k : LockId) → IsLeft (λ u. get_or held u []) k → is_free held k ≡ true
left_free [] k left = refl
left_free (locks ∷ held) k left = and_from (not (is_held locks k)) (is_free held k) (ap not (left zero)) (left_free held k (λ u. left (suc u)))

module _ (s : Script) (y : System) (f : Flat) (start : IsCoreStart s y f) (c : CoreState) (h : HasDone s y f c) (k : LockId) (lock : is_lock (length s.users) k ≡ true) where
  abbrev base : Levels
  base = (committed s y c).levels

  -- ---- the event of a user that does not hold the lock

  stays_closed : (u : ℕ) (x : User) (request : Request) (reply : Reply) (effect : Effect) → (is : IsAsking s c u x request) → followed (plan_of x request) (trace_of c u) ≡ Close reply effect
      → is_held (locks_of c u) k ≡ false → Same k (committed s y (closed s c u reply effect x)).levels base
  stays_closed u x request reply effect is over other =
      subst (λ (w : System). Same k w.levels base) (sym (now s y f start c h u x request is reply effect over))
      (traced_stays (length s.users) (locks_of c u) base (trace_of c u) k (h.apart.locks u).some (h.apart.covers u) lock other)

  stays : (u : ℕ) → is_held (locks_of c u) k ≡ false → Same k (committed s y (core_step s c u)).levels base
  stays u other = by_event s c u (λ o. Same k (committed s y (if_there o c (happened s c u))).levels base)
      (λ idle. stays_same k base)
      (λ x request reply effect is over.
      subst (λ (o : Option User). Same k (committed s y (if_there o c (closed s c u reply effect))).levels base) (sym is.here) (stays_closed u x request reply effect is over other))
      (λ x request call go is next mine. stays_same k base)
      (λ x request call go is next taken. stays_same k base)

  -- ---- the event of its holder

  -- a close leaves it free
  freed : (u : ℕ) (x : User) (request : Request) (reply : Reply) (effect : Effect) → (is : IsAsking s c u x request) → followed (plan_of x request) (trace_of c u) ≡ Close reply effect
      → is_held (locks_of c u) k ≡ true → is_free (closed s c u reply effect x).held k ≡ true
  freed u x request reply effect is over mine = left_free (closed s c u reply effect x).held k
      (by_set (λ v locks. is_held locks k ≡ false) (nothing_held s y f start c h u x request is reply effect over) refl
      (λ v apart. not_held h.apart u v k (λ same. apart (sym same)) mine))

  module _ (seen : Levels) (same : Same k seen base) where
    -- where it is held after an event, what was committed is so still
    abbrev StillSeen : CoreState → Type 0
    StillSeen d = is_free d.held k ≡ false → Same k seen (committed s y d).levels

    by_holder : (u : ℕ) → is_held (locks_of c u) k ≡ true → StillSeen (core_step s c u)
    by_holder u mine = by_event s c u (λ o. StillSeen (if_there o c (happened s c u)))
        (λ idle held. same)
        (λ x request reply effect is over. subst (λ (o : Option User). StillSeen (if_there o c (closed s c u reply effect))) (sym is.here)
        (λ held. absurd (true≢false (sym (freed u x request reply effect is over mine) ∙ held))))
        (λ x request call go is next mine held. same)
        (λ x request call go is next taken held. same)

    still_seen : (u : ℕ) → (b : Bool) → is_held (locks_of c u) k ≡ b → StillSeen (core_step s c u)
    still_seen u true mine held = by_holder u mine held
    still_seen u false other held = same_then same (same_back (stays u other))

  -- what is seen now is committed, where what was seen before is so for a lock that is held
  seen_now : (seen : Levels) → (is_free c.held k ≡ false → Same k seen base) → Same k (if_free k c seen) base
  seen_now seen old = by_test (is_free c.held k) refl
    where
      by_test : (b : Bool) → is_free c.held k ≡ b → Same k (cond b c.levels seen) base
      by_test true free = h.apart.free k lock (free_left c.held k free)
      by_test false held = old held

-- ---- along events

module _ (s : Script) (y : System) (f : Flat) (start : IsCoreStart s y f) (k : LockId) (lock : is_lock (length s.users) k ≡ true) where
  last_seen : (us : List ℕ) (c : CoreState) → HasDone s y f c → AreEnabled s c us → (seen : Levels) → (is_free c.held k ≡ false → Same k seen (committed s y c).levels)
      → Same k (last_free s k c seen us) (committed s y (core_after s c us)).levels
  last_seen [] c h may seen old = seen_now s y f start c h k lock seen old
  last_seen (u ∷ us) c h may seen old =
      let same = seen_now s y f start c h k lock seen old in
      last_seen us (core_step s c u) (event_keeps s y f start c h u may.0) may.1 (if_free k c seen)
      (still_seen s y f start c h k lock (if_free k c seen) same u (is_held (locks_of c u) k) refl)

pub committed_was_free : CommittedWasFree
committed_was_free s y f us start may k lock =
    (last_seen s y f start k lock us (core_of y) (begins s y f start) may y.levels (λ held. stays_same k y.levels)).at_lock

pub others_commit_elsewhere : OthersCommitElsewhere
others_commit_elsewhere s y f us start may k lock u other =
    (stays s y f start (core_after s (core_of y) us) (has_done s y f us start may) k lock u other).at_lock
