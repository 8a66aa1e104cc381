-- What serving one request, and all of them, leaves. States docs/promises.md, "Replays".
use Rattle.std.specs.Prelude.{◌≡◌, ◌+◌, ◌≤◌, ◌<◌, ◌^◌, ℕ, false, List, [], ◌∷◌, ◌++◌, slice_get, map, Some}
use Rattle.psos_calls.specs.declared.request.Request.{Request}
use Rattle.psos_calls.specs.declared.reply.Reply.{Reply}
use Rattle.psos_calls.specs.declared.effect.Effect.{Effect}
use Rattle.psos_calls.specs.declared.level.Level.{Level}
use Rattle.psos_calls.specs.Levels.Calls.{LevelCall}
use Rattle.psos_calls.specs.declared.entry.Entry.{Entry}
use Rattle.psos_calls.specs.Language.Script.{Script, IsWellFormed}
use Rattle.psos_calls.specs.Language.User.{User, next_request, CanCount}
use Rattle.psos_calls.specs.Levels.{Levels}
use Rattle.psos_calls.specs.Plan.{Plan, PlanRun, Runs}
use Rattle.psos_model.specs.Flat.{Flat}
use Rattle.psos_model.specs.Run.{has_left, run_from, answers_from, run, IsLegalFrom, IsComplete}
use Rattle.psos_model.specs.Replay.{System, replay_step, replay_from, replay, entries_from, order_of, answered_of, AreFaithful}
use Rattle.psos_model.specs.Text.Output.{calls_of}
use Rattle.psos_model.specs.Sound.{IsSound}
use Rattle.psos_model.specs.Flat.Boot.{boot}
use Rattle.psos_model.specs.Replay.StandsFor.{StandsFor}
use Rattle.psos_laws.specs.Laws.{HoldsAlong}

-- where a run starts: the levels with the users' own parts, and the flat state that they stand for
pub record Start : Type 0 where
  pub system : System
  pub flat : Flat

-- ---- one request

-- each call of the plan can be made, one after another
abbrev pub CanRun : Plan → Levels → Type 0
CanRun plan l = Runs plan l (λ after reply effect. Unit {0})

-- a plan was run: the levels after it, its calls, its reply and its effect
pub record IsPlanRun (p : PlanRun) (after : Levels) (calls : List (Level × LevelCall)) (reply : Reply) (effect : Effect) : Type 0 where
  pub levels-are : after ≡ p.levels
  pub calls-are : calls ≡ p.calls
  pub reply-is : reply ≡ p.reply
  pub effect-is : effect ≡ p.effect

-- user u asks this request next, and it can be served: the levels stand for a sound flat state in which two identifiers are left
pub record Asks (s : Script) (y : System) (u : ℕ) (request : Request) : Type 0 where
  pub user : User
  pub flat : Flat
  pub here : slice_get y.users u ≡ Some user
  pub next : next_request s user ≡ Some request
  pub well_formed : IsWellFormed s
  pub stands : StandsFor y flat
  pub sound : IsSound s flat
  pub room : flat.next + 3 ≤ 2 ^ 64
  pub count : CanCount user user.frames

-- user u's next request was served by its plan, and its entry came last
pub record IsServed (s : Script) (old : System) (before : List Entry) (u : ℕ) (new : System) (entries : List Entry) : Type 0 where
  pub system-is : new ≡ (replay_step s old u).0
  pub entries-are : entries ≡ before ++ (replay_step s old u).1 ∷ []

-- ---- all requests

-- from such a start, the requests so far come in a legal order, and the entries are those of its replay and say what its run answers
pub record IsFrontFrom (s : Script) (y : System) (f : Flat) (entries : List Entry) : Type 0 where
  pub legal : IsLegalFrom s f (order_of entries)
  pub recorded : entries ≡ entries_from s y (order_of entries)
  pub answered : map answered_of entries ≡ answers_from s f (order_of entries)

-- from such a start, the users' own parts are settled as in that replay: no request has closed but those of the entries, and each of these has
pub record AreSettledFrom (s : Script) (y : System) (entries : List Entry) (users : List User) : Type 0 where
  pub users-are : users ≡ (replay_from s y (order_of entries)).users

-- a whole run: nobody has a request left, the requests come in such an order, the levels are those of the replay and stand for the flat state of the run, and the laws hold at every point of it
pub record IsRunFrom (s : Script) (y : System) (f : Flat) (InOrder : List ℕ → Type 0) (entries : List Entry) (left : System) : Type 0 where
  pub front : IsFrontFrom s y f entries
  pub over : (u : ℕ) → has_left s (run_from s f (order_of entries)).users u ≡ false
  pub ordered : InOrder (order_of entries)
  pub few : calls_of entries < 2 ^ 64
  pub replayed : left ≡ replay_from s y (order_of entries)
  pub stands : StandsFor left (run_from s f (order_of entries))
  pub lawful : HoldsAlong s f (order_of entries)

-- a whole run from boot: its order is complete and such an order, its entries are faithful and made few level calls, the levels are those of the replay and stand for the flat state of the run, and at every point of it the origins are sound, and guarded, sealed and held back hold
pub record IsWholeRun (s : Script) (InOrder : List ℕ → Type 0) (entries : List Entry) (left : System) : Type 0 where
  pub complete : IsComplete s (order_of entries)
  pub faithful : AreFaithful s entries
  pub ordered : InOrder (order_of entries)
  pub few : calls_of entries < 2 ^ 64
  pub replayed : left ≡ replay s (order_of entries)
  pub stands : StandsFor left (run s (order_of entries))
  pub lawful : HoldsAlong s (boot s) (order_of entries)
