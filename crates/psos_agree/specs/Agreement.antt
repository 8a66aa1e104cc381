-- Plans and answers, where the levels stand for a flat state. States docs/promises.md, "Stands for".
use Rattle.std.specs.Prelude.{◌≡◌, ◌+◌, ◌≤◌, ◌^◌, ℕ, length, slice_get, Some}
use Rattle.psos_limits.specs.declared.TheConstants.{MOST_CODES, MOST_PATH, MOST_CALLS}
use Rattle.psos_calls.specs.declared.request.Request.{Request}
use Rattle.psos_calls.specs.declared.reply.Reply.{Reply}
use Rattle.psos_calls.specs.declared.reply.Reply.TheVariants.{No}
use Rattle.psos_calls.specs.declared.effect.Effect.{Effect}
use Rattle.psos_calls.specs.Language.Script.{Script, IsWellFormed}
use Rattle.psos_calls.specs.Language.Request.{InRange}
use Rattle.psos_calls.specs.Language.User.{User, next_request, CanMake}
use Rattle.psos_calls.specs.Levels.{Levels}
use Rattle.psos_calls.specs.Levels.Lists.{HasLists}
use Rattle.psos_calls.specs.Plan.{Runs, run_plan}
use Rattle.psos_calls.specs.Plan.Requests.{plan_of}
use Rattle.psos_model.specs.Flat.{Flat}
use Rattle.psos_model.specs.Flat.Changes.{changed_all}
use Rattle.psos_model.specs.Answer.Outcomes.{Outcome}
use Rattle.psos_model.specs.Answer.{outcome, answer}
use Rattle.psos_model.specs.Flat.Boot.{boot}
use Rattle.psos_model.specs.Replay.{System, boot_system, replay_step, answered_of}
use Rattle.psos_model.specs.Sound.{IsSound}
use Rattle.psos_model.specs.Replay.StandsFor.{StandsFor}

-- user u of a well-formed script, whose own part is x, asks this request next; the levels stand for a sound flat state, and two identifiers are left
pub record Ready (s : Script) (y : System) (f : Flat) (u : ℕ) (x : User) (request : Request) : Type 0 where
  pub well : IsWellFormed s
  pub stands : StandsFor y f
  pub sound : IsSound s f
  pub room : f.next + 3 ≤ 2 ^ 64
  pub here : slice_get f.users u ≡ Some x
  pub asks : next_request s x ≡ Some request
  pub in_range : InRange MOST_CODES request

-- a refusal leaves the levels as they were
abbrev pub KeepsIfNo : Reply → Levels → Levels → Type 0
KeepsIfNo (No r) old new = new ≡ old
KeepsIfNo _ old new = Unit {0}

-- what a plan leaves, replies and effects is the outcome, and the effect can be made
pub record Meets (x : User) (y : System) (f : Flat) (o : Outcome) (l : Levels) (reply : Reply) (effect : Effect) : Type 0 where
  pub reply-is : reply ≡ o.reply
  pub effect-is : effect ≡ o.effect
  pub stands : StandsFor (record y { levels = l }) (changed_all f o.changes)
  pub kept : KeepsIfNo reply y.levels l
  pub makes : CanMake x effect

-- the plan of this request, run from levels that stand for a sound flat state, makes each call where it can be made, and is the outcome
abbrev pub Agrees : Request → Type 0
Agrees request = (s : Script) (y : System) (f : Flat) (u : ℕ) (x : User) → Ready s y f u x request
    → Runs (plan_of x request) y.levels (Meets x y f (outcome f x request))

-- ---- one request, and boot

-- user u's next request, by its plan and by its answer. A refusal leaves all levels as they were
pub record StepAgrees (s : Script) (y : System) (f : Flat) (u : ℕ) : Type 0 where
  pub stands : StandsFor (replay_step s y u).0 (answer s f u).0
  pub answered : answered_of (replay_step s y u).1 ≡ (answer s f u).1
  pub kept : KeepsIfNo (replay_step s y u).1.reply y.levels (replay_step s y u).0.levels

-- the plan of each request agrees with its answer, from levels that stand for a sound flat state in which two identifiers are left
abbrev pub RequestsAgree : Type 0
RequestsAgree = (s : Script) (y : System) (f : Flat) (u : ℕ) → IsWellFormed s
    → StandsFor y f → IsSound s f → f.next + 3 ≤ 2 ^ 64 → StepAgrees s y f u

-- the levels at boot stand for the flat state of boot
abbrev pub BootStands : Type 0
BootStands = (s : Script) → IsWellFormed s → StandsFor (boot_system s) (boot s)

-- ---- how many calls

-- the plan of each request makes at most 44 calls, from any levels, where the name space has at most 4 directories
abbrev pub PlansAreShort : Type 0
PlansAreShort = (x : User) (l : Levels) (request : Request) → length x.path ≤ MOST_PATH → length (run_plan (plan_of x request) l).calls ≤ MOST_CALLS

-- ---- directories in words

-- levels that stand for a sound flat state have an entry list in the words of each live directory
abbrev pub DirectoriesAreLists : Type 0
DirectoriesAreLists = (s : Script) (y : System) (f : Flat) → StandsFor y f → IsSound s f → HasLists y.levels
