-- What a plan that reads a directory does after a trace. States docs/requests.md, "Plans".
use Rattle.std.specs.Prelude.{◌≡◌, ℕ, List, [], Some}
use Rattle.psos_table.specs.Table.{at}
use Rattle.psos_caps.specs.Capability.{Capability}
use Rattle.psos_caps.specs.declared.rights.Rights.{Rights}
use Rattle.psos_calls.specs.declared.next.Next.{Next}
use Rattle.psos_calls.specs.declared.step.Step.{Step}
use Rattle.psos_calls.specs.declared.right.Right.{Right}
use Rattle.psos_calls.specs.declared.level_call.LevelCall.TheVariants.{PageGet}
use Rattle.psos_calls.specs.Levels.Level8.{slot_of}
use Rattle.psos_calls.specs.Levels.Level9.{rep_of}
use Rattle.psos_calls.specs.Levels.{Levels}
use Rattle.psos_calls.specs.Levels.Lists.{HasLists}
use Rattle.psos_calls.specs.Plan.{Plan, Ask}
use Rattle.psos_calls.specs.Plan.Parts.{Opened, read_pages, read_rep, read_dir, open_dir}
use Rattle.psos_calls.specs.Plan.Trace.{followed, next_of, IsTraceOf}
use Rattle.psos_plan_dir.specs.declared.reading.Reading.{Reading}
use Rattle.psos_plan_dir.specs.declared.reading.Reading.TheVariants as readings

-- the plan does not begin with a call for a page, so pages that it follows end where its calls begin
abbrev pub IsNoPage : Plan → Type 0
IsNoPage (Ask (PageGet page) go) = ⊥
IsNoPage _ = Unit {0}

-- a plan that reads a directory and goes on with it, by how it goes on
abbrev pub Reader : Type 0
Reader = (Opened → Plan) → Plan

-- opens a directory, and does not look at its guard
abbrev pub open_with : Capability → Right → Reader
open_with cap right go = open_dir cap right (λ guard d. go d)

-- the trace is a front of a run of such a plan, from levels in which each live directory has an entry list
pub record IsFront (reads : Reader) (levels : Levels) (trace : List Step) : Type 0 where
  pub lists : HasLists levels
  pub go : Opened → Plan
  pub apart : (d : Opened) → IsNoPage (go d)
  pub front : IsTraceOf (reads go) levels trace

-- the trace is a front of a run of the plan, from levels in which each live directory has an entry list
pub record IsRun (plan : Plan) (trace : List Step) : Type 0 where
  pub levels : Levels
  pub front : IsTraceOf plan levels trace
  pub lists : HasLists levels

-- ---- where a directory may be read

-- by a capability
pub record IsCapFront (cap : Capability) (right : Right) (trace : List Step) : Type 0 where
  pub levels : Levels
  pub front : IsFront (open_with cap right) levels trace

-- by its identifier: it is live
pub record IsDirFront (dir : ℕ) (trace : List Step) : Type 0 where
  pub levels : Levels
  pub front : IsFront (read_dir dir) levels trace
  pub guard : Rights
  pub live : at levels.dirs dir ≡ Some guard

-- by its representation: it is that of a live directory
pub record IsRepFront (rep : ℕ) (trace : List Step) : Type 0 where
  pub levels : Levels
  pub front : IsFront (read_rep rep) levels trace
  pub dir : ℕ
  pub guard : Rights
  pub live : at levels.dirs dir ≡ Some guard
  pub is : rep_of levels.types dir ≡ rep

-- by its slot of pages: a representation of a live directory lies there
pub record IsSlotFront (slot : ℕ) (trace : List Step) : Type 0 where
  pub levels : Levels
  pub front : IsFront (read_pages 8 slot 0 []) levels trace
  pub dir : ℕ
  pub guard : Rights
  pub live : at levels.dirs dir ≡ Some guard
  pub is : slot_of levels.segs (rep_of levels.types dir) ≡ slot

-- ---- what a reader tells

-- whatever follows, this is next
pub record IsNext (reads : Reader) (trace : List Step) (n : Next) : Type 0 where
  pub is : (go : Opened → Plan) → next_of (followed (reads go) trace) ≡ n

-- whatever follows, the rest of the trace is that of another reader
pub record GoesOn (before after : Reader) (trace rest : List Step) : Type 0 where
  pub is : (go : Opened → Plan) → followed (before go) trace ≡ followed (after go) rest
  pub front : (l : Levels) (go : Opened → Plan) → IsTraceOf (before go) l trace → IsTraceOf (after go) l rest

-- the directory is read, and whatever follows goes on with it by the rest of the trace
abbrev pub IsRead : Reader → List Step → Opened → List Step → Type 0
IsRead reads trace d rest = GoesOn reads (λ go. go d) trace rest

abbrev pub Reads : Reader → List Step → Reading → Type 0
Reads reads trace (readings.Next next) = IsNext reads trace next
Reads reads trace (readings.Done d rest) = IsRead reads trace d rest
