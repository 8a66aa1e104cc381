-- Each enabled event goes further, and there is a bound. States docs/levels.md, "Locks".
use Rattle.std.proofs.Common.{◌≡◌, ℕ, ◌+◌, ◌*◌, ◌<◌, ◌≤◌, true, List, [], ◌∷◌, ◌++◌, length, get_or, set, length-append, Option, refl, sym, subst, arith}
use Rattle.std.specs.Prelude.{nat_lt, sum_by, IsTrue}
use Rattle.std.proofs.lemmas.Bool.{true≢false, and_parts, ltb-true}
use Rattle.std.proofs.lemmas.List.{length-map}
use Rattle.std.proofs.lemmas.List.Elements.{All-from_get_or}
use Rattle.std.proofs.lemmas.List.Sums.{sum_by-set, sum_by-le}
use Rattle.psos_calls.specs.declared.entry.Entry.{Entry}
use Rattle.psos_calls.specs.declared.level.Level.{Level}
use Rattle.psos_calls.specs.declared.level.Level.TheVariants.{L13, L12, L11, L10, L9, L8, L7, L0}
use Rattle.psos_calls.specs.Levels.Calls.{LevelCall}
use Rattle.psos_calls.specs.declared.lock_id.LockId.{LockId}
use Rattle.psos_calls.specs.declared.request.Request.{Request}
use Rattle.psos_calls.specs.declared.reply.Reply.{Reply}
use Rattle.psos_calls.specs.declared.effect.Effect.{Effect}
use Rattle.psos_calls.specs.declared.step.Step.{Step}
use Rattle.psos_calls.specs.Language.Script.{Script}
use Rattle.psos_calls.specs.Language.Tests.{if_there}
use Rattle.psos_calls.specs.Language.User.{User}
use Rattle.psos_calls.specs.Locks.Held.{rank, are_earlier}
use Rattle.psos_calls.specs.Locks.{lock_of}
use Rattle.psos_model.specs.Flat.{Flat}
use Rattle.psos_model.specs.Replay.{System, order_of}
use Rattle.psos_model.specs.Events.{CoreState, Take, Call, locks_of, trace_of, core_of, entry_of, closed, happened, may_happen, is_enabled, core_step, core_after}
use Rattle.psos_model.specs.Events as core
use Rattle.psos_model.specs.Events.Serial.{IsCoreStart}
use Rattle.psos_laws.proofs.OrderLengths.{orders_end}
use Rattle.psos_events.specs.Events.{gone, EventsGoOn}
use Rattle.psos_events.proofs.OpenTraces.{Covers, step_of}
use Rattle.psos_events.proofs.EventMoves.{IsAsking, by_event}
use Rattle.psos_events.proofs.ReplayInvariant.{below}
use Rattle.psos_events.proofs.LockOrder.{AreInOrder}
use Rattle.psos_events.proofs.Progress.{StillGoes, from_start, asks_now}
use Rattle.psos_events.proofs.EventConditions as able

-- ---- how many locks a user holds

rank_most : (level : Level) → rank level ≤ 13
rank_most L13 = omega arith
rank_most L12 = omega arith
rank_most L11 = omega arith
rank_most L10 = omega arith
rank_most L9 = omega arith
rank_most L8 = omega arith
rank_most L7 = omega arith
rank_most L0 = omega arith

-- as many ranks as locks are above that of a lock that is later than all of them
few_before : (k : LockId) (locks : List LockId) → are_earlier locks k ≡ true → AreInOrder locks → length locks + rank k.level ≤ 13
few_before k [] later ordered = omega (arith, rank_most k.level)
few_before k (j ∷ locks) later ordered =
    let tests = and_parts (nat_lt (rank k.level) (rank j.level)) (are_earlier locks k) later in
    let less : rank k.level < rank j.level = ltb-true (rank k.level) (rank j.level) tests.0 in
    omega (arith, less, few_before j locks ordered.0 ordered.1)

few_locks : (locks : List LockId) → AreInOrder locks → length locks ≤ 14
few_locks [] ordered = omega arith
few_locks (k ∷ locks) ordered = omega (arith, few_before k locks ordered.0 ordered.1)

-- ---- the lengths of all lists of a list

-- one list is set
sum_set : {X : Type 0} (lists : List (List X)) (u : ℕ) (new : List X) → u < length lists
    → sum_by (λ (list : List X). length list) (set lists u new) + length (get_or lists u []) ≡ sum_by (λ (list : List X). length list) lists + length new
sum_set {X} lists u new below = sum_by-set (λ (list : List X). length list) lists u new [] below

-- none is longer than n
sum_most : {X : Type 0} (lists : List (List X)) (n : ℕ) → ((u : ℕ) → length (get_or lists u []) ≤ n) → sum_by (λ (list : List X). length list) lists ≤ length lists * n
sum_most {X} lists n few = sum_by-le (λ (list : List X). length list) n lists (All-from_get_or (λ (list : List X). length list ≤ n) lists [] (λ u below. few u))

-- ---- what a core has

module _ (s : Script) (y : System) (f : Flat) (start : IsCoreStart s y f) (c : CoreState) (h : StillGoes s y f c) where
  locks_few : (u : ℕ) → length (locks_of c u) ≤ 14
  locks_few u = few_locks (locks_of c u) (h.goes.in_order u)

  -- who has made a call holds its lock, and so has a request left
  trace_few : (u : ℕ) → length (trace_of c u) ≤ 44
  trace_few u = by_trace (trace_of c u) refl
    where
      by_trace : (trace : List Step) → trace_of c u ≡ trace → length trace ≤ 44
      by_trace [] e = omega arith
      by_trace (t ∷ trace) e =
          let covers : Covers (length s.users) (locks_of c u) (t ∷ trace) = subst (λ (steps : List Step). Covers (length s.users) (locks_of c u) steps) e (h.done.apart.covers u) in
          let asks = asks_now s y f start c h.done u (h.goes.holders u (lock_of (length s.users) t.call) covers.0) in
          subst (λ (steps : List Step). length steps ≤ 44) e (able.trace_few s y f start c h.done u asks.user asks.request asks.is)

  gone_most : gone c ≤ 2000000
  gone_most =
      let closes : length (order_of c.entries) ≤ 32768 = orders_end s f (order_of c.entries) start.well_formed start.start h.done.legal in
      let entries : length (order_of c.entries) ≡ length c.entries = length-map c.entries (λ (e : Entry). e.user) in
      let locks : sum_by (λ (locks : List LockId). length locks) c.held ≤ length c.held * 14 = sum_most c.held 14 locks_few in
      let calls : sum_by (λ (trace : List Step). length trace) c.traces ≤ length c.traces * 44 = sum_most c.traces 44 trace_few in
      omega (arith, closes, entries, locks, calls, h.done.held_all, h.done.traces_all, start.well_formed.few_users)

  -- ---- each event of user u goes further

  module _ (u : ℕ) (x : User) (request : Request) (is : IsAsking s c u x request) where
    user_below : u < length s.users
    user_below = below s y f start c h.done u x request is

    -- it holds so many locks now
    held_then : (locks : List LockId)
        → sum_by (λ (list : List LockId). length list) (set c.held u locks) + length (locks_of c u) ≡ sum_by (λ (list : List LockId). length list) c.held + length locks
    held_then locks = sum_set c.held u locks (subst (λ (n : ℕ). u < n) (sym h.done.held_all) user_below)

    -- its trace has so many calls now
    traces_then : (trace : List Step)
        → sum_by (λ (list : List Step). length list) (set c.traces u trace) + length (trace_of c u) ≡ sum_by (λ (list : List Step). length list) c.traces + length trace
    traces_then trace = sum_set c.traces u trace (subst (λ (n : ℕ). u < n) (sym h.done.traces_all) user_below)

    take_goes : (k : LockId) → gone c < gone (happened s c u (Take k))
    take_goes k = omega (arith, held_then (k ∷ locks_of c u))

    call_goes : (call : LevelCall) → gone c < gone (happened s c u (Call call))
    call_goes call =
        let t = step_of c.levels call in
        omega (arith, traces_then (trace_of c u ++ t ∷ []), length-append (trace_of c u) (t ∷ []))

    -- it leaves at most 14 locks and 44 calls
    closed_goes : (reply : Reply) (effect : Effect) → gone c < gone (closed s c u reply effect x)
    closed_goes reply effect =
        omega (arith, length-append c.entries (entry_of c u x reply ∷ []), held_then [], traces_then [], locks_few u, trace_few u)

    close_goes : (reply : Reply) (effect : Effect) → gone c < gone (happened s c u (core.Close reply effect))
    close_goes reply effect =
        subst (λ (o : Option User). gone c < gone (if_there o c (closed s c u reply effect))) (sym is.here) (closed_goes reply effect)

  event_goes : (u : ℕ) → IsTrue (is_enabled s c u) → gone c < gone (core_step s c u)
  event_goes u = by_event s c u (λ o. IsTrue (may_happen c u o) → gone c < gone (if_there o c (happened s c u)))
      (λ idle may. absurd (true≢false (sym may)))
      (λ x request reply effect is over may. close_goes u x request is reply effect)
      (λ x request call go is next mine may. call_goes u x request is call)
      (λ x request call go is next other may. take_goes u x request is (lock_of (length s.users) call))

pub events_go_on : EventsGoOn
events_go_on s y f us start may =
    let c = core_after s (core_of y) us in
    let h = from_start s y f us start may in
    (gone_most s y f start c h, event_goes s y f start c h)
