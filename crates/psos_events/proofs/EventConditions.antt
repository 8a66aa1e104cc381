-- Each event can happen: a call meets its condition and has room in its trace, and a close can be settled. States docs/levels.md, "Calls".
use Rattle.std.proofs.Common.{◌≡◌, ℕ, ◌≤◌, true, List, [], ◌∷◌, length, map, Option, Some, sym, ap, ◌∙◌, subst, arith}
use Rattle.std.specs.Prelude.{slice_get, IfSome}
use Rattle.psos_calls.specs.declared.request.Request.{Request}
use Rattle.psos_calls.specs.declared.reply.Reply.{Reply}
use Rattle.psos_calls.specs.declared.effect.Effect.{Effect}
use Rattle.psos_calls.specs.declared.entry.Entry.{Entry}
use Rattle.psos_calls.specs.declared.step.Step.{Step}
use Rattle.psos_calls.specs.Levels.Answers.{LevelAnswer}
use Rattle.psos_calls.specs.Levels.Calls.{LevelCall}
use Rattle.psos_calls.specs.Language.Script.{Script}
use Rattle.psos_calls.specs.Language.User.{User, CanSettle}
use Rattle.psos_calls.specs.Levels.{Levels, act, Can}
use Rattle.psos_calls.specs.Locks.Held.{is_held}
use Rattle.psos_calls.specs.Locks.{lock_of}
use Rattle.psos_calls.specs.Plan.{Plan, Close, Ask, Runs}
use Rattle.psos_calls.specs.Plan.Requests.{plan_of}
use Rattle.psos_calls.specs.Plan.Trace.{followed, IsTraceOf}
use Rattle.psos_model.specs.Flat.{Flat}
use Rattle.psos_model.specs.Answer.{outcome}
use Rattle.psos_model.specs.Run.{has_left, run_from}
use Rattle.psos_model.specs.Replay.{System, order_of, answered_of}
use Rattle.psos_model.specs.Events.{CoreState, locks_of, trace_of, core_of, core_after, event_of}
use Rattle.psos_model.specs.Events.Serial.{IsCoreStart, committed, traced}
use Rattle.psos_model.proofs.RequestRanges.{in_range, can_count}
use Rattle.psos_laws.proofs.BootSoundness.{boot_start}
use Rattle.psos_laws.proofs.RoomToStep.{can_step}
use Rattle.psos_agree.specs.Agreement.{Meets}
use Rattle.psos_agree.proofs.BootStands.{boot_stands}
use Rattle.psos_agree.proofs.PlanLengths.{plans_are_short}
use Rattle.psos_agree.proofs.RequestsAgree.{all_agree}
use Rattle.psos_events.specs.Events.{BootIsCoreStart, EventsCommit, CanHappen, EventsCanHappen}
use Rattle.psos_events.proofs.LockScope.{same_back, can_alike}
use Rattle.psos_events.proofs.OpenTraces.{traced_strangers, trace_within}
use Rattle.psos_events.proofs.EventMoves.{IsAsking, by_event}
use Rattle.psos_events.proofs.ReplayInvariant.{HasDone, has_done, stands_now}

-- what holds along a plan's run holds after a trace of it
pub runs_on : (plan : Plan) (l : Levels) (trace : List Step) (P : Levels → Reply → Effect → Type 0) → IsTraceOf plan l trace → Runs plan l P → Runs (followed plan trace) (traced l trace) P
runs_on (Close reply effect) l [] P is h = h
runs_on (Close reply effect) l (t ∷ trace) P is h = absurd is
runs_on (Ask call go) l [] P is h = h
runs_on (Ask call go) l (t ∷ trace) P is h =
    let Q : Step → Type 0 = λ q. Runs (followed (go q.answer) trace) (traced (act l q.call).0 trace) P in
    subst Q (sym is.0) (runs_on (go (act l call).1) (act l call).0 trace P is.1 h.1)

module _ (s : Script) (y : System) (f : Flat) (start : IsCoreStart s y f) (c : CoreState) (h : HasDone s y f c) (u : ℕ) where
  abbrev flat : Flat
  flat = run_from s f (order_of c.entries)

  abbrev base : System
  base = committed s y c

  -- the run of the closes leaves the same own part
  in_flat : (x : User) (request : Request) → IsAsking s c u x request → slice_get flat.users u ≡ Some x
  in_flat x request is = ap (λ (us : List User). slice_get us u) (sym (h.users ∙ (stands_now s y f c start h).stands.users)) ∙ is.here

  -- what is left of a plan can be run from the levels that its user sees
  left_runs : (x : User) (request : Request) → IsAsking s c u x request
      → Runs (followed (plan_of x request) (trace_of c u)) (traced base.levels (trace_of c u)) (Meets x base flat (outcome flat x request))
  left_runs x request is =
      let now = stands_now s y f c start h in
      runs_on (plan_of x request) base.levels (trace_of c u) (Meets x base flat (outcome flat x request)) (h.traces u x request is.here is.asks)
      (all_agree request s base flat u x (record { well = start.well_formed; stands = now.stands; sound = now.sound; room = now.room; here = in_flat x request is; asks = is.asks; in_range = in_range s start.well_formed x request is.asks }))

  call_can : (x : User) (request : Request) (call : LevelCall) (go : LevelAnswer → Plan) → IsAsking s c u x request → followed (plan_of x request) (trace_of c u) ≡ Ask call go
      → is_held (locks_of c u) (lock_of (length s.users) call) ≡ true → Can c.levels call
  call_can x request call go is next mine =
      let seen = traced base.levels (trace_of c u) in
      let runs = subst (λ (p : Plan). Runs p seen (Meets x base flat (outcome flat x request))) next (left_runs x request is) in
      can_alike (length s.users) seen c.levels call (traced_strangers (length s.users) base.levels (trace_of c u) h.apart.first) h.apart.second (same_back (h.apart.own u (lock_of (length s.users) call) mine)) runs.0

  -- its trace is the front of a run of at most 44 calls
  pub trace_few : (x : User) (request : Request) → IsAsking s c u x request → length (trace_of c u) ≤ 44
  trace_few x request is =
      let path : length x.path ≤ 4 = ((stands_now s y f c start h).sound.users u x (in_flat x request is)).path in
      omega (arith, trace_within (plan_of x request) base.levels (trace_of c u) (h.traces u x request is.here is.asks), plans_are_short x base.levels request path)

  close_can : (x : User) (request : Request) (reply : Reply) (effect : Effect) → IsAsking s c u x request → followed (plan_of x request) (trace_of c u) ≡ Close reply effect → CanSettle x effect
  close_can x request reply effect is over =
      let now = stands_now s y f c start h in
      let same = h.users ∙ now.stands.users in
      let met = subst (λ (p : Plan). Runs p (traced base.levels (trace_of c u)) (Meets x base flat (outcome flat x request))) over (left_runs x request is) in
      let step = can_step s flat u start.well_formed now.sound (omega (arith, now.room)) (subst (λ (us : List User). has_left s us u ≡ true) same is.left) in
      let room = step.counts x (in_flat x request is) in
      record { count = can_count s start.well_formed x room request is.asks; make = met.makes }

  can_happen : CanHappen c u (event_of s c u)
  can_happen = by_event s c u (λ o. CanHappen c u o)
      (λ idle. tt)
      (λ x request reply effect is over. subst (λ (o : Option User). IfSome o (λ z. CanSettle z effect)) (sym is.here) (close_can x request reply effect is over))
      (λ x request call go is next mine. (call_can x request call go is next mine, omega (arith, trace_few x request is)))
      (λ x request call go is next other. tt)

pub events_can_happen : EventsCanHappen
events_can_happen s y f us start may u = can_happen s y f start (core_after s (core_of y) us) (has_done s y f us start may) u

-- ---- what is committed

pub events_commit : EventsCommit
events_commit s y f us start may =
    let c = core_after s (core_of y) us in
    let h = has_done s y f us start may in
    let now = stands_now s y f c start h in
    record { stands = now.stands; answered = ap (λ (es : List Entry). map answered_of es) h.entries ∙ now.answered }

-- ---- boot

pub boot_is_core_start : BootIsCoreStart
boot_is_core_start s well = record { well_formed = well; start = boot_start s well; stands = boot_stands s well }
