-- Parts of plans: a plan is parts behind one another, and after a trace each is past or not. States docs/requests.md, "Plans".
use Rattle.std.specs.Prelude.{◌≡◌, ℕ, Option, None, List, Result, Ok, Err}
use Rattle.psos_limits.specs.declared.TheConstants.{MOST_WORDS}
use Rattle.psos_caps.specs.declared.cap.Uid.{Uid}
use Rattle.psos_caps.specs.declared.rights.Rights.{Rights}
use Rattle.psos_calls.specs.Levels.Calls.{LevelCall}
use Rattle.psos_calls.specs.declared.level_call.LevelCall.TheVariants.{DirMake, ObjMake}
use Rattle.psos_calls.specs.declared.step.Step.{Step}
use Rattle.psos_calls.specs.declared.next.Next.{Next}
use Rattle.psos_calls.specs.Plan.{Plan, Ask, if_done, if_slot, if_rep}
use Rattle.psos_calls.specs.Language.Capabilities.{uid}
use Rattle.psos_calls.specs.Plan.Parts.{with_fresh}
use Rattle.psos_calls.specs.Plan.Objects.{with_segment, drop_segment, drop_object}
use Rattle.psos_calls.specs.Levels.{Levels, act}
use Rattle.psos_calls.specs.Plan.Trace.{followed, next_of, IsTraceOf}

-- the part is past: it gives x, and what is behind it goes on with the rest of the trace
pub record Gives {X : Type 0} (part : (X → Plan) → Plan) (trace : List Step) (x : X) (rest : List Step) : Type 0 where
  pub goes_on : (go : X → Plan) → followed (part go) trace ≡ followed (go x) rest

-- the part is not past: this comes next, whatever is behind it
pub record Stops {X : Type 0} (part : (X → Plan) → Plan) (trace : List Step) (next : Next) : Type 0 where
  pub comes : (go : X → Plan) → next ≡ next_of (followed (part go) trace)

-- what is told of a part that gives nothing: it is past, with these steps behind it, or it is not
abbrev pub Tells : ((Unit {0} → Plan) → Plan) → List Step → Result (List Step) Next → Type 0
Tells part trace (Ok rest) = Gives part trace tt rest
Tells part trace (Err next) = Stops part trace next

-- a part was tried, with this result: whatever part it was, this comes next where such a plan is behind it
pub record ComesAfter (tried : Result (List Step) Next) (after : Plan) (next : Next) : Type 0 where
  pub comes : (part : (Unit {0} → Plan) → Plan) (trace : List Step) → Tells part trace tried → next ≡ next_of (followed (part (λ _. after)) trace)

-- a call that only has to be made
abbrev pub doing : LevelCall → (Unit {0} → Plan) → Plan
doing call go = Ask call (λ a. if_done a (go tt))

-- where the trace is a front of a run of such a plan, the rest is one of what is behind the call, from the levels that it left
pub record Leads (call : LevelCall) (trace rest : List Step) : Type 0 where
  pub front : (l : Levels) (go : Unit {0} → Plan) → IsTraceOf (doing call go) l trace → IsTraceOf (go tt) (act l call).0 rest

-- a call that answers with a slot
abbrev pub taking : LevelCall → (ℕ → Plan) → Plan
taking call go = Ask call (λ a. if_slot a go)

-- a call that answers with a representation
abbrev pub naming : LevelCall → (ℕ → Plan) → Plan
naming call go = Ask call (λ a. if_rep a go)

-- a slot is taken, and a segment is made in it
abbrev pub segmented : ℕ → ℕ → Rights → (Unit {0} → Plan) → Plan
segmented u len guard go = with_segment u len guard (go tt)

-- a representation is made, and on it an object of this type, or of none
abbrev pub represented : ℕ → ℕ → Rights → Option Uid → (Unit {0} → Plan) → Plan
represented u len guard of go =
    with_fresh (λ rep.
    with_segment rep.uid len guard (
    Ask (ObjMake (uid u) of rep) (λ a. if_done a (go tt))))

-- a representation is made, and on it an object of no type and a directory with this guard
abbrev pub directed : ℕ → Rights → (Unit {0} → Plan) → Plan
directed u guard go = represented u MOST_WORDS guard None (λ _. Ask (DirMake (uid u) guard) (λ a. if_done a (go tt)))

-- a segment goes, and its slot is freed
abbrev pub segment_dropped : ℕ → (Unit {0} → Plan) → Plan
segment_dropped u go = drop_segment u (go tt)

-- an object or a directory goes from level 9, and its representation with it
abbrev pub object_dropped : ℕ → (Unit {0} → Plan) → Plan
object_dropped u go = drop_object u (go tt)
