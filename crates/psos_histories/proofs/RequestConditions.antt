-- What a request at work may do: the levels of the replay stand for the flat state of its run. States docs/levels.md, "Calls".
use Rattle.std.proofs.Common.{◌≡◌, ℕ, zero, suc, ◌≤◌, true, List, [], ◌∷◌, length, Some, sym, ap, ◌∙◌, subst, arith}
use Rattle.std.specs.Prelude.{slice_get, IsTrue}
use Rattle.std.proofs.lemmas.Option.{same_Some, none-some}
use Rattle.psos_calls.specs.declared.lock_id.LockId.{LockId}
use Rattle.psos_calls.specs.declared.request.Request.{Request}
use Rattle.psos_calls.specs.declared.reply.Reply.{Reply}
use Rattle.psos_calls.specs.declared.effect.Effect.{Effect}
use Rattle.psos_calls.specs.declared.entry.Entry.{Entry}
use Rattle.psos_calls.specs.declared.step.Step.{Step}
use Rattle.psos_calls.specs.Language.Script.{Script}
use Rattle.psos_calls.specs.Language.User.{User, next_request, CanSettle}
use Rattle.psos_calls.specs.Levels.Calls.{LevelCall}
use Rattle.psos_calls.specs.Levels.Answers.{LevelAnswer}
use Rattle.psos_calls.specs.Levels.{Levels, Can}
use Rattle.psos_calls.specs.Locks.{lock_of}
use Rattle.psos_calls.specs.Locks.Held.{same_lock}
use Rattle.psos_calls.specs.Plan.{Plan, Close, Ask, Runs}
use Rattle.psos_calls.specs.Plan.Requests.{plan_of}
use Rattle.psos_calls.specs.Plan.Trace.{followed}
use Rattle.psos_model.specs.Flat.{Flat}
use Rattle.psos_model.specs.Answer.{outcome}
use Rattle.psos_model.specs.Run.{has_left, run_from}
use Rattle.psos_model.specs.Replay.{System}
use Rattle.psos_model.specs.Events.Serial.{IsCoreStart, traced}
use Rattle.psos_model.proofs.RequestRanges.{in_range, can_count}
use Rattle.psos_laws.proofs.RoomToStep.{can_step}
use Rattle.psos_agree.specs.Agreement.{Meets}
use Rattle.psos_agree.proofs.PlanLengths.{plans_are_short}
use Rattle.psos_agree.proofs.RequestsAgree.{all_agree}
use Rattle.psos_events.specs.Replays.{RunStands}
use Rattle.psos_events.proofs.EventConditions.{runs_on}
use Rattle.psos_events.proofs.LockScope.{same_lock_is}
use Rattle.psos_events.proofs.MailboxRows.{NoOthers}
use Rattle.psos_events.proofs.OpenTraces.{traced_strangers, trace_within}
use Rattle.psos_events.proofs.Replays.{runs_stand}
use Rattle.psos_histories.specs.Pieces.{Piece, piece_at, can_piece}
use Rattle.psos_histories.specs.Records.{order_in, replay_in}
use Rattle.psos_histories.specs.Grips.{Grip, AreIn}
use Rattle.psos_histories.specs.Requests.{IsWorking, CanIn, RequestsAreAble}
use Rattle.psos_histories.proofs.Pieces.{can_alone}
use Rattle.psos_histories.proofs.LockHistories.{replay_strangers}

module _ (s : Script) (y : System) (f : Flat) (start : IsCoreStart s y f) (u : ℕ) (x : User) (request : Request) (grips : List Grip) (trace : List Step) (log : List (Entry × ℕ))
    (w : IsWorking s y f u x (plan_of x request) grips trace log) (asks : next_request s x ≡ Some request) where
  abbrev base : System
  base = replay_in s y log

  abbrev flat : Flat
  flat = run_from s f (order_in log)

  stands_now : RunStands s y f (order_in log)
  stands_now = runs_stand s y f (order_in log) start w.recorded.legal

  in_flat : slice_get flat.users u ≡ Some x
  in_flat = ap (λ (us : List User). slice_get us u) (sym stands_now.stands.users) ∙ w.here

  left_runs : Runs (followed (plan_of x request) trace) (traced base.levels trace) (Meets x base flat (outcome flat x request))
  left_runs =
      runs_on (plan_of x request) base.levels trace (Meets x base flat (outcome flat x request)) w.trace_is
      (all_agree request s base flat u x (record { well = start.well_formed; stands = stands_now.stands; sound = stands_now.sound; room = stands_now.room; here = in_flat; asks = asks; in_range = in_range s start.well_formed x request asks }))

  few_calls : length trace ≤ 44
  few_calls =
      let path : length x.path ≤ 4 = (stands_now.sound.users u x in_flat).path in
      omega (arith, trace_within (plan_of x request) base.levels trace w.trace_is, plans_are_short x base.levels request path)

  -- the call that comes next
  can_call : (call : LevelCall) (go : LevelAnswer → Plan) → followed (plan_of x request) trace ≡ Ask call go → Can (traced base.levels trace) call
  can_call call go next = (subst (λ (p : Plan). Runs p (traced base.levels trace) (Meets x base flat (outcome flat x request))) next left_runs).0

  can_each : (n : ℕ) (l : Levels) (call : LevelCall) → NoOthers n l.boxes → Can l call → (grips : List Grip) → AreIn n l grips → CanIn grips (lock_of n call) call
  can_each n l call others can [] h i g there same = absurd (none-some g there)
  can_each n l call others can (q ∷ grips) h zero g there same =
      let is : q ≡ g = same_Some q g there in
      let lock : q.lock ≡ lock_of n call = same_lock_is q.lock (lock_of n call) (subst (λ (r : Grip). same_lock r.lock (lock_of n call) ≡ true) (sym is) same) in
      let piece : piece_at (lock_of n call) l ≡ q.piece = ap (λ (k : LockId). piece_at k l) (sym lock) ∙ sym h.1 in
      subst (λ (r : Grip). can_piece r.piece call) is (subst (λ (p : Piece). can_piece p call) piece (can_alone n l call others can))
  can_each n l call others can (q ∷ grips) h (suc i) g there same = can_each n l call others can grips h.3 i g there same

  can_make : (call : LevelCall) (go : LevelAnswer → Plan) → followed (plan_of x request) trace ≡ Ask call go → CanIn grips (lock_of (length s.users) call) call
  can_make call go next =
      let n = length s.users in
      let others = traced_strangers n base.levels trace (replay_strangers s y f start (order_in log)) in
      can_each n (traced base.levels trace) call others (can_call call go next) grips w.grips_are

  -- the close
  pub can_close : (reply : Reply) (effect : Effect) → followed (plan_of x request) trace ≡ Close reply effect → IsTrue (has_left s base.users u) → CanSettle x effect
  can_close reply effect over left =
      let met = subst (λ (p : Plan). Runs p (traced base.levels trace) (Meets x base flat (outcome flat x request))) over left_runs in
      let step = can_step s flat u start.well_formed stands_now.sound (omega (arith, stands_now.room)) (subst (λ (us : List User). has_left s us u ≡ true) stands_now.stands.users left) in
      record { count = can_count s start.well_formed x (step.counts x in_flat) request asks; make = met.makes }

  -- who has a request left by the replay has one left by the run
  pub left_flat : IsTrue (has_left s base.users u) → IsTrue (has_left s flat.users u)
  left_flat left = subst (λ (us : List User). has_left s us u ≡ true) stands_now.stands.users left

pub requests_are_able : RequestsAreAble
requests_are_able s y f u x request grips trace log start w asks = record {
  can = can_make s y f start u x request grips trace log w asks;
  few = few_calls s y f start u x request grips trace log w asks;
}
