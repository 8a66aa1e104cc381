-- What holds wherever events have led from a start. States docs/levels.md, "Locks".
use Rattle.std.proofs.Common.{◌≡◌, ℕ, ◌+◌, ◌<◌, ◌≤◌, ◌||◌, Bool, true, false, cond, List, [], ◌∷◌, length, Option, Some, sym, ap, ◌∙◌, subst, arith}
use Rattle.std.specs.Prelude.{slice_get, slice_set, slice_index_or, IfSome, option_map}
use Rattle.std.proofs.lemmas.Bool.{and_parts}
use Rattle.psos_calls.specs.declared.level.Level.{Level}
use Rattle.psos_calls.specs.Levels.Calls.{LevelCall}
use Rattle.psos_calls.specs.declared.next.Next.{Next}
use Rattle.psos_calls.specs.declared.next.Next.TheVariants as nexts
use Rattle.psos_calls.specs.declared.reply.Reply.{Reply}
use Rattle.psos_calls.specs.declared.effect.Effect.{Effect}
use Rattle.psos_calls.specs.Language.Script.{Script}
use Rattle.psos_calls.specs.Language.Tests.{if_there}
use Rattle.psos_calls.specs.declared.frame.Frame.{Frame}
use Rattle.psos_calls.specs.Language.User.{User, CanCount, CanSettle}
use Rattle.psos_calls.specs.Levels.{Can}
use Rattle.psos_calls.specs.Locks.{lock_of}
use Rattle.psos_calls.specs.Locks.Held.{is_held, may_take}
use Rattle.psos_model.specs.Flat.{Flat}
use Rattle.psos_model.specs.Run.{has_left, run_from}
use Rattle.psos_model.specs.Replay.{System, order_of}
use Rattle.psos_model.specs.Events.{CoreState, Event, locks_of, trace_of, called, closed, happened, event_of, core_step}
use Rattle.psos_model.specs.Events as events
use Rattle.psos_model.specs.Events.Serial.{IsCoreStart, committed}
use Rattle.psos_laws.proofs.OrderLengths.{orders_end}
use Rattle.psos_agree.proofs.EntryLists.{directories_are_lists}
use Rattle.psos_events.specs.Events.{CanHappen}
use Rattle.psos_events.proofs.EventConditions.{events_can_happen}
use Rattle.psos_events.proofs.ReplayInvariant.{HasDone, has_done, stands_now, event_keeps}
use Rattle.psos_core.specs.declared.ongoing.Ongoing.{Ongoing}
use Rattle.psos_core.specs.Plans.{next_for, CanPlan, may_go, known_of}
use Rattle.psos_core.specs.declared.upcoming.Upcoming.TheVariants as upcoming
use Rattle.psos_core.specs.EventStates.{IsUnderWay}
use Rattle.psos_core.specs.Events.{MayStep}
use Rattle.psos_model.proofs.Orders.{order_length}
use Rattle.psos_core.proofs.EventStep.{event, event_is, enabled_is, told_is}

-- what a user's plan does next can be told
pub can_plan : (s : Script) (y : System) (f : Flat) → IsCoreStart s y f → (c : CoreState) → HasDone s y f c → (u : ℕ) (x : User) → slice_get c.users u ≡ Some x → CanPlan s x (trace_of c u)
can_plan s y f start c h u x here =
    let now = stands_now s y f c start h in
    record {
      levels = (committed s y c).levels;
      traced = λ request asks. h.traces u x request here asks;
      lists = directories_are_lists s (committed s y c) (run_from s f (order_of c.entries)) now.stands now.sound;
    }

module _ (s : Script) (c : CoreState) (h : IsUnderWay s c) where
  abbrev y : System
  y = h.start.system

  abbrev f : Flat
  f = h.start.flat

  pub done : HasDone s y f c
  done = subst (HasDone s y f) (sym h.after.state) (has_done s y f h.turns h.after.starts h.after.enabled)

  -- few requests have closed
  pub few : length c.entries ≤ 32768
  few = omega (arith, orders_end s f (order_of c.entries) h.after.starts.well_formed h.after.starts.start done.legal, order_length c.entries)

  pub plans : (u : ℕ) (x : User) → slice_get c.users u ≡ Some x → CanPlan s x (trace_of c u)
  plans = can_plan s y f h.after.starts c done

  pub can_happen : (u : ℕ) → CanHappen c u (event_of s c u)
  can_happen u = subst (λ (d : CoreState). CanHappen d u (event_of s d u)) (sym h.after.state) (events_can_happen s y f h.turns h.after.starts h.after.enabled u)

-- ---- user u's event

module _ (s : Script) (c : CoreState) (o : Ongoing) (u : ℕ) (may : MayStep s c o u) where
  abbrev n : ℕ
  n = length s.users

  -- what is kept of its plan is what it does next
  pub planned_next : known_of (slice_index_or o.nexts.items u upcoming.Nothing) ≡ next_for s c u
  planned_next = told_is (slice_index_or o.nexts.items u upcoming.Nothing) (next_for s c u) (may.planned.each u) (may.known u)

  pub left : has_left s c.users u ≡ true
  left = (and_parts (has_left s c.users u) (may_go n c.held u (next_for s c u)) (sym (enabled_is s c u) ∙ may.goes.enabled)).0

  pub goes : may_go n c.held u (next_for s c u) ≡ true
  goes = (and_parts (has_left s c.users u) (may_go n c.held u (next_for s c u)) (sym (enabled_is s c u) ∙ may.goes.enabled)).1

  -- what holds then
  pub done_then : HasDone s may.goes.under_way.start.system may.goes.under_way.start.flat (core_step s c u)
  done_then = event_keeps s may.goes.under_way.start.system may.goes.under_way.start.flat may.goes.under_way.after.starts c (done s c may.goes.under_way) u may.goes.enabled

  pub plans_then : (v : ℕ) (x : User) → slice_get (core_step s c u).users v ≡ Some x → CanPlan s x (trace_of (core_step s c u) v)
  plans_then = can_plan s may.goes.under_way.start.system may.goes.under_way.start.flat may.goes.under_way.after.starts (core_step s c u) done_then

  event_by : (next : Next) → next_for s c u ≡ Some next → event_of s c u ≡ Some (event s c u next)
  event_by next asked = event_is s c u left ∙ ap (option_map (event s c u)) asked

  step_by : (e : Event) → event_of s c u ≡ Some e → core_step s c u ≡ happened s c u e
  step_by e is = ap (λ (o : Option Event). if_there o c (happened s c u)) is

  -- the plan asks for a call
  module _ (level : Level) (call : LevelCall) (asked : next_for s c u ≡ Some (nexts.Call level call)) where
    by_held : (b : Bool) → is_held (locks_of c u) (lock_of n call) ≡ b → event_of s c u ≡ Some (cond b (events.Call call) (events.Take (lock_of n call)))
    by_held b e = event_by (nexts.Call level call) asked ∙ ap (λ (b : Bool). Some (cond b (events.Call call) (events.Take (lock_of n call)))) e

    -- whose lock it does not hold
    module _ (free : is_held (locks_of c u) (lock_of n call) ≡ false) where
      pub event_take : event_of s c u ≡ Some (events.Take (lock_of n call))
      event_take = by_held false free

      pub may_take_it : may_take c.held (locks_of c u) (lock_of n call) ≡ true
      may_take_it =
          ap (λ (b : Bool). b || may_take c.held (locks_of c u) (lock_of n call)) (sym free)
          ∙ (ap (may_go n c.held u) (sym asked) ∙ goes)

      pub step_take : core_step s c u ≡ record c { held = slice_set c.held u (lock_of n call ∷ locks_of c u) }
      step_take = step_by (events.Take (lock_of n call)) event_take

    -- whose lock it holds
    module _ (mine : is_held (locks_of c u) (lock_of n call) ≡ true) where
      pub event_call : event_of s c u ≡ Some (events.Call call)
      event_call = by_held true mine

      pub step_call : core_step s c u ≡ called c u call
      step_call = step_by (events.Call call) event_call

      can : CanHappen c u (Some (events.Call call))
      can = subst (CanHappen c u) event_call (can_happen s c may.goes.under_way u)

      pub can_call : Can c.levels call
      can_call = can.0

      pub room : length (trace_of c u) < 64
      room = can.1

  -- the plan closes
  module _ (reply : Reply) (effect : Effect) (asked : next_for s c u ≡ Some (nexts.Close reply effect)) where
    pub event_close : event_of s c u ≡ Some (events.Close reply effect)
    event_close = event_by (nexts.Close reply effect) asked

    module _ (x : User) (here : slice_get c.users u ≡ Some x) where
      pub step_close : core_step s c u ≡ closed s c u reply effect x
      step_close = step_by (events.Close reply effect) event_close ∙ ap (λ (o : Option User). if_there o c (closed s c u reply effect)) here

      pub can_settle : CanSettle x effect
      can_settle =
          let can : CanHappen c u (Some (events.Close reply effect)) = subst (CanHappen c u) event_close (can_happen s c may.goes.under_way u) in
          subst (λ (o : Option User). IfSome o (λ z. CanSettle z effect)) here can

-- the counts of a user whose part can be settled have room
pub answered_fits : (x : User) (e : Effect) → CanSettle x e → x.frames ≡ [] → x.answered + 1 < 65536
answered_fits x e can none = subst (CanCount x) none can.count

pub within_fits : (x : User) (e : Effect) → CanSettle x e → 0 < length x.frames → x.within + 1 < 65536
within_fits x e can some = by_frames x.frames can.count some
  where
    by_frames : (frames : List Frame) → CanCount x frames → 0 < length frames → x.within + 1 < 65536
    by_frames [] count some = absurd (omega (arith, some))
    by_frames (q ∷ outer) count some = count.0
