-- A request that is served by its plan, put back among the users' own parts.
use Rattle.std.proofs.Common.{◌≡◌, ℕ, ◌<◌, ◌≤◌, List, [], ◌∷◌, ◌++◌, length, get_or, set, sym, ap, ◌∙◌, subst, arith}
use Rattle.std.specs.Prelude.{slice_get, Some}
use Rattle.std.specs.List.{refill}
use Rattle.std.proofs.lemmas.List.{take_at, length-set}
use Rattle.std.proofs.lemmas.Option.{get_or_from_slice_get, slice_get_within}
use Rattle.psos_calls.specs.declared.request.Request.{Request}
use Rattle.psos_calls.specs.declared.reply.Reply.{Reply}
use Rattle.psos_calls.specs.declared.level.Level.{Level}
use Rattle.psos_calls.specs.Levels.Calls.{LevelCall}
use Rattle.psos_calls.specs.declared.effect.Effect.{Effect}
use Rattle.psos_calls.specs.declared.entry.Entry.{Entry}
use Rattle.psos_calls.specs.Language.Script.{Script}
use Rattle.psos_calls.specs.Language.Request.{InRange}
use Rattle.psos_calls.specs.Language.User.{User, place_of, after, CanSettle, CanMake}
use Rattle.psos_calls.specs.Levels.{Levels, act}
use Rattle.psos_calls.specs.Plan.{Plan, Close, Ask, Runs, run_plan}
use Rattle.psos_calls.specs.Plan.Requests.{plan_of}
use Rattle.psos_calls.specs.Levels.Lists.{HasLists}
use Rattle.psos_model.specs.Answer.{outcome}
use Rattle.psos_model.specs.Replay.{System}
use Rattle.psos_model.proofs.RequestRanges.{in_range}
use Rattle.psos_agree.specs.Agreement.{Ready, Meets}
use Rattle.psos_agree.proofs.RequestsAgree.{all_agree, runs_run}
use Rattle.psos_agree.proofs.PlanLengths.{plans_are_short}
use Rattle.psos_agree.proofs.EntryLists.{directories_are_lists}
use Rattle.psos_core.specs.Serving.{Asks, CanRun, IsPlanRun, IsServed}
use Rattle.psos_core.proofs.ReplayStep.{step_is}
use Rattle.psos_core.proofs.UserSlots.{nobody}

-- each call of a plan that runs can be made
runs_can : (plan : Plan) (l : Levels) (P : Levels → Reply → Effect → Type 0) → Runs plan l P → CanRun plan l
runs_can (Close reply effect) l P h = tt
runs_can (Ask call go) l P h = (h.0, runs_can (go (act l call).1) (act l call).0 P h.1)

-- what holds of a request that can be served
module _ (s : Script) (y : System) (u : ℕ) (request : Request) (asks : Asks s y u request) where
  ready : Ready s y asks.flat u asks.user request
  ready = record {
    well = asks.well_formed;
    stands = asks.stands;
    sound = asks.sound;
    room = asks.room;
    here = ap (λ (xs : List User). slice_get xs u) (sym asks.stands.users) ∙ asks.here;
    asks = asks.next;
    in_range = in_range s asks.well_formed asks.user request asks.next;
  }

  runs : Runs (plan_of asks.user request) y.levels (Meets asks.user y asks.flat (outcome asks.flat asks.user request))
  runs = all_agree request s y asks.flat u asks.user ready

  -- its directories are entry lists
  pub lists : HasLists y.levels
  lists = directories_are_lists s y asks.flat asks.stands asks.sound

  pub ranged : InRange 64 request
  ranged = ready.in_range

  pub within : u < length y.users
  within = slice_get_within y.users u asks.user asks.here

  -- the user that is found is the one that asks
  pub is_user : (xs : List User) (found : User) → xs ≡ y.users → found ≡ get_or xs u found → found ≡ asks.user
  is_user xs found same read = read ∙ ap (λ (zs : List User). get_or zs u found) same ∙ get_or_from_slice_get y.users u asks.user found asks.here

  pub me_is : get_or y.users u nobody ≡ asks.user
  me_is = get_or_from_slice_get y.users u asks.user nobody asks.here

  pub me_there : slice_get y.users u ≡ Some (get_or y.users u nobody)
  me_there = asks.here ∙ ap (λ (x : User). Some x) (sym me_is)

  pub can_run : (me : User) → me ≡ asks.user → CanRun (plan_of me request) y.levels
  can_run me is =
      let P : User → Type 0 = λ x. CanRun (plan_of x request) y.levels in
      subst P (sym is) (runs_can (plan_of asks.user request) y.levels _ runs)

  pub few_calls : (me : User) → me ≡ asks.user → length (run_plan (plan_of me request) y.levels).calls ≤ 44
  few_calls me is = plans_are_short me y.levels request (omega (arith, ap (λ (x : User). length x.path) is, (asks.sound.users u asks.user ready.here).path))

  makes : CanMake asks.user (run_plan (plan_of asks.user request) y.levels).effect
  makes = (runs_run (plan_of asks.user request) y.levels (Meets asks.user y asks.flat (outcome asks.flat asks.user request)) runs).makes

  -- its effect can be settled
  pub can_settle : (found me : User) (after : Levels) (calls : List (Level × LevelCall)) (reply : Reply) (effect : Effect) → found ≡ asks.user → me ≡ asks.user
      → IsPlanRun (run_plan (plan_of me request) y.levels) after calls reply effect → CanSettle found effect
  can_settle found me after calls reply effect is me-is ran =
      let P : User → Type 0 = λ x. CanSettle x effect in
      let Q : Effect → Type 0 = λ e. CanMake asks.user e in
      let e : effect ≡ (run_plan (plan_of asks.user request) y.levels).effect = ran.effect-is ∙ ap (λ (x : User). (run_plan (plan_of x request) y.levels).effect) me-is in
      subst P (sym is) (record { count = asks.count; make = subst Q (sym e) makes })

  refill_all : (n : ℕ) (xs ws : List User) → length ws ≡ n → refill n xs ws ≡ ws
  refill_all n xs ws e = take_at ws _ n e

  pub served : (me found left : User) (users slots : List User) (before entries : List Entry) (after-levels : Levels) (calls : List (Level × LevelCall)) (reply : Reply) (effect : Effect) (n m : ℕ)
      → me ≡ asks.user → found ≡ asks.user → users ≡ y.users → slots ≡ users → IsPlanRun (run_plan (plan_of me request) y.levels) after-levels calls reply effect
      → left ≡ after s found effect → (n, m) ≡ place_of asks.user → entries ≡ before ++ record { user = u; n = n; m = m; steps = calls; reply = reply } ∷ []
      → IsServed s y before u (record { levels = after-levels; users = refill (length users) users (set slots u left) }) entries
  served me found left users slots before entries after-levels calls reply effect n m me-is found-is users-are same ran settles placed pushed =
      let x = asks.user in
      let P : User → Type 0 = λ z. IsPlanRun (run_plan (plan_of z request) y.levels) after-levels calls reply effect in
      let plan = subst P me-is ran in
      let p = run_plan (plan_of x request) y.levels in
      let step = step_is s y u x request asks.here asks.next in
      let left-is : left ≡ after s x p.effect = settles ∙ ap (λ (z : User). after s z effect) found-is ∙ ap (λ (e : Effect). after s x e) plan.effect-is in
      let parts : refill (length users) users (set slots u left) ≡ set y.users u (after s x p.effect) =
      refill_all (length users) users (set slots u left) (length-set slots u left ∙ ap length same)
      ∙ ap (λ (xs : List User). set xs u left) (same ∙ users-are) ∙ ap (λ (z : User). set y.users u z) left-is in
      let G : ℕ × ℕ → List (Level × LevelCall) → Reply → Entry = λ place steps r. record { user = u; n = place.0; m = place.1; steps = steps; reply = r } in
      let S : Levels → List User → System = λ l xs. record { levels = l; users = xs } in
      record {
        system-is = ap (λ (xs : List User). S after-levels xs) parts ∙ ap (λ (l : Levels). S l (set y.users u (after s x p.effect))) plan.levels-are
            ∙ sym (ap (λ (r : System × Entry). r.0) step);
        entries-are = pushed ∙ ap (λ (e : Entry). before ++ e ∷ []) (ap (λ (k : ℕ × ℕ). G k calls reply) placed ∙ ap (λ (c : List (Level × LevelCall)). G (place_of x) c reply) plan.calls-are
            ∙ ap (λ (r : Reply). G (place_of x) p.calls r) plan.reply-is ∙ sym (ap (λ (r : System × Entry). r.1) step));
      }
