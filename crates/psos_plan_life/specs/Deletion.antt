-- Parts of the plan of `delete`. States docs/requests.md, "Plans".
use Rattle.std.specs.Prelude.{◌≡◌, ℕ, List, Some}
use Rattle.psos_table.specs.Table.{at}
use Rattle.psos_caps.specs.Capability.{Capability}
use Rattle.psos_words.specs.Directory.{Found, find, gone_words}
use Rattle.psos_text.specs.declared.name.Name.{Name}
use Rattle.psos_calls.specs.declared.kind.Kind.{Kind}
use Rattle.psos_calls.specs.declared.kind.Kind.TheVariants.{Directory}
use Rattle.psos_calls.specs.declared.right.Right.TheVariants.{Delete}
use Rattle.psos_calls.specs.declared.refusal.Refusal.TheVariants.{UnknownName, NotDistinguished, NotEmpty}
use Rattle.psos_calls.specs.declared.level_call.LevelCall.TheVariants.{Hold13, Hold11, KindOf, Forget, DirGone}
use Rattle.psos_calls.specs.declared.step.Step.{Step}
use Rattle.psos_calls.specs.Language.Tests.{if_there, if_holds}
use Rattle.psos_calls.specs.Levels.{Levels}
use Rattle.psos_calls.specs.Levels.Lists.{HasLists}
use Rattle.psos_calls.specs.Plan.{Plan, Ask, refuse, if_done, if_kind}
use Rattle.psos_calls.specs.Language.Capabilities.{uid}
use Rattle.psos_calls.specs.Plan.Parts.{Opened, put_slot, fine}
use Rattle.psos_calls.specs.Plan.Objects.{is_empty, drop_kind}
use Rattle.psos_calls.specs.Plan.Trace.{IsTraceOf}
use Rattle.psos_plan_dir.specs.Reads.{Reader, open_with}
use Rattle.psos_plan_life.specs.Parts.{Gives, doing}

-- the two levels above are held, and the directory is opened
abbrev pub held_dir : Capability → Reader
held_dir dir go = doing Hold13 (λ _. doing Hold11 (λ _. open_with dir Delete go))

-- what is to go: its entry, and its kind
pub record Picked : Type 0 where
  pub found : Found
  pub kind : Kind

-- the distinguished entry of a name, and the kind of what it names
abbrev pub picking : Opened → Name → (Picked → Plan) → Plan
picking d name go =
    if_there (find d.slots name) (refuse UnknownName) (λ found.
    if_holds found.entry.kept (refuse NotDistinguished) (
    Ask (KindOf (uid found.entry.cap.uid)) (λ c. if_kind c (λ kind. go (record { found = found; kind = kind })))))

-- what goes with a thing of this kind
abbrev pub kind_dropped : Kind → ℕ → (Unit {0} → Plan) → Plan
kind_dropped kind u go = drop_kind kind u (go tt)

-- a directory that was read goes from level 10, if it has no entry
abbrev pub emptied : Opened → ℕ → (Unit {0} → Plan) → Plan
emptied d u go = if_holds (is_empty d) (refuse NotEmpty) (doing (DirGone (uid u)) go)

-- the object is forgotten, and its entry goes
abbrev pub forgotten : Opened → Found → Plan
forgotten d found = Ask (Forget (uid found.entry.cap.uid)) (λ e. if_done e (put_slot d found.slot gone_words fine))

-- what is behind the opened directory
abbrev pub deleting : Opened → Name → Plan
deleting d name = picking d name (λ p. kind_dropped p.kind p.found.entry.cap.uid (λ _. forgotten d p.found))

-- ---- where a plan is in such a part

-- at the start, behind the register
pub record IsHeldFront (dir : Capability) (name : Name) (trace : List Step) : Type 0 where
  pub levels : Levels
  pub lists : HasLists levels
  pub front : IsTraceOf (held_dir dir (λ d. deleting d name)) levels trace

-- behind the opened directory
pub record IsDeleting (d : Opened) (name : Name) (trace : List Step) : Type 0 where
  pub levels : Levels
  pub lists : HasLists levels
  pub front : IsTraceOf (deleting d name) levels trace

-- at what goes with a thing of this kind. A directory that goes is live
pub record IsDropping (kind : Kind) (u : ℕ) (trace : List Step) : Type 0 where
  pub levels : Levels
  pub lists : HasLists levels
  pub go : Unit {0} → Plan
  pub front : IsTraceOf (kind_dropped kind u go) levels trace
  pub live : kind ≡ Directory → at levels.life u ≡ Some Directory

-- behind the pages of a directory that goes
pub record IsEmptying (d : Opened) (u : ℕ) (trace : List Step) : Type 0 where
  pub levels : Levels
  pub go : Unit {0} → Plan
  pub front : IsTraceOf (emptied d u go) levels trace

-- ---- a part is past

-- the entry of the name names this
pub record IsEntryOf (d : Opened) (name : Name) (u : ℕ) : Type 0 where
  pub found : Found
  pub is : find d.slots name ≡ Some found
  pub names : u ≡ found.entry.cap.uid

-- it is of this kind, and the plan goes on with it
pub record IsPicked (d : Opened) (name : Name) (trace : List Step) (u : ℕ) (kind : Kind) (rest : List Step) : Type 0 where
  pub entry : IsEntryOf d name u
  pub gives : Gives (picking d name) trace (record { found = entry.found; kind = kind }) rest
  pub front : (l : Levels) (go : Picked → Plan) → IsTraceOf (picking d name go) l trace
      → IsTraceOf (go (record { found = entry.found; kind = kind })) l rest × (kind ≡ Directory → at l.life u ≡ Some Directory)
