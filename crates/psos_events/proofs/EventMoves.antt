-- A user's event, by what its plan does next.
use Rattle.std.proofs.Common.{◌≡◌, ℕ, Bool, true, false, cond, length, Option, Some, None, refl, sym, ap, ◌∙◌}
use Rattle.std.specs.Prelude.{slice_get, option_map}
use Rattle.std.specs.Option.{option_and_then}
use Rattle.std.proofs.lemmas.Bool.{true≢false}
use Rattle.std.proofs.lemmas.Option.{none-some}
use Rattle.psos_calls.specs.declared.request.Request.{Request}
use Rattle.psos_calls.specs.declared.reply.Reply.{Reply}
use Rattle.psos_calls.specs.declared.effect.Effect.{Effect}
use Rattle.psos_calls.specs.Levels.Answers.{LevelAnswer}
use Rattle.psos_calls.specs.Levels.Calls.{LevelCall}
use Rattle.psos_calls.specs.Language.Script.{Script}
use Rattle.psos_calls.specs.Language.User.{User, next_request}
use Rattle.psos_calls.specs.Locks.Held.{is_held}
use Rattle.psos_calls.specs.Locks.{lock_of}
use Rattle.psos_calls.specs.Plan.{Plan, Close, Ask}
use Rattle.psos_calls.specs.Plan.Requests.{plan_of}
use Rattle.psos_calls.specs.Plan.Trace.{followed, next_of}
use Rattle.psos_model.specs.Run.{has_left}
use Rattle.psos_model.specs.Events.{CoreState, Event, Take, Call, locks_of, trace_of, plan_left, event_for, event_of}
use Rattle.psos_model.specs.Events as core

-- user u, whose own part is x, has this request left
pub record IsAsking (s : Script) (c : CoreState) (u : ℕ) (x : User) (request : Request) : Type 0 where
  pub left : has_left s c.users u ≡ true
  pub here : slice_get c.users u ≡ Some x
  pub asks : next_request s x ≡ Some request

module _ (s : Script) (c : CoreState) (u : ℕ) (P : Option Event → Type 0) where
  -- what holds of no event, where nothing is left, and of each event, by what the plan does next, holds of the event
  module _ (idle : ((x : User) (request : Request) → IsAsking s c u x request → ⊥) → P None)
      (closes : (x : User) (request : Request) (reply : Reply) (effect : Effect) → IsAsking s c u x request → followed (plan_of x request) (trace_of c u) ≡ Close reply effect → P (Some (core.Close reply effect)))
      (calls : (x : User) (request : Request) (call : LevelCall) (go : LevelAnswer → Plan) → IsAsking s c u x request → followed (plan_of x request) (trace_of c u) ≡ Ask call go
      → is_held (locks_of c u) (lock_of (length s.users) call) ≡ true → P (Some (Call call)))
      (takes : (x : User) (request : Request) (call : LevelCall) (go : LevelAnswer → Plan) → IsAsking s c u x request → followed (plan_of x request) (trace_of c u) ≡ Ask call go
      → is_held (locks_of c u) (lock_of (length s.users) call) ≡ false → P (Some (Take (lock_of (length s.users) call)))) where
    abbrev event : Plan → Event
    event plan = event_for (length s.users) (locks_of c u) (next_of plan)

    by_lock : (x : User) (request : Request) (call : LevelCall) (go : LevelAnswer → Plan) → IsAsking s c u x request → followed (plan_of x request) (trace_of c u) ≡ Ask call go
        → (b : Bool) → is_held (locks_of c u) (lock_of (length s.users) call) ≡ b → P (Some (cond b (Call call) (Take (lock_of (length s.users) call))))
    by_lock x request call go is e true held = calls x request call go is e held
    by_lock x request call go is e false held = takes x request call go is e held

    by_plan : (x : User) (request : Request) → IsAsking s c u x request → (plan : Plan) → followed (plan_of x request) (trace_of c u) ≡ plan → P (Some (event plan))
    by_plan x request is (Close reply effect) e = closes x request reply effect is e
    by_plan x request is (Ask call go) e = by_lock x request call go is e (is_held (locks_of c u) (lock_of (length s.users) call)) refl

    by_request : (x : User) → has_left s c.users u ≡ true → slice_get c.users u ≡ Some x → (o : Option Request) → next_request s x ≡ o
        → P (option_map event (option_map (λ request. followed (plan_of x request) (trace_of c u)) o))
    by_request x left here None e = idle (λ z request is.
        let same : Some x ≡ Some z = sym here ∙ is.here in
        none-some request (sym e ∙ (ap (λ (o : Option User). option_and_then (next_request s) o) same ∙ is.asks)))
    by_request x left here (Some request) e = by_plan x request (record { left = left; here = here; asks = e }) (followed (plan_of x request) (trace_of c u)) refl

    by_user : has_left s c.users u ≡ true → (o : Option User) → slice_get c.users u ≡ o → P (option_map event (option_and_then (plan_left s c u) o))
    by_user left None e = idle (λ z request is. none-some z (sym e ∙ is.here))
    by_user left (Some x) e = by_request x left e (next_request s x) refl

    by_left : (b : Bool) → has_left s c.users u ≡ b → P (cond b (option_map event (option_and_then (plan_left s c u) (slice_get c.users u))) None)
    by_left false e = idle (λ z request is. true≢false (sym is.left ∙ e))
    by_left true e = by_user e (slice_get c.users u) refl

    pub by_event : P (event_of s c u)
    by_event = by_left (has_left s c.users u) refl
