-- Where the entry of a new user object goes: the part of a plan that finds its slot and takes its identifier. States docs/requests.md, "Plans".
use Rattle.std.specs.Prelude.{ℕ, List, Option, Some, None, IsSome}
use Rattle.std.specs.Option.{unwrap_or}
use Rattle.psos_caps.specs.Capability.{Capability}
use Rattle.psos_words.specs.Directory.{slot_for}
use Rattle.psos_text.specs.declared.name.Name.{Name}
use Rattle.psos_calls.specs.declared.right.Right.TheVariants.{Create}
use Rattle.psos_calls.specs.declared.level_call.LevelCall.TheVariants.{DirAt, RepOf, TypeAt}
use Rattle.psos_calls.specs.declared.step.Step.{Step}
use Rattle.psos_calls.specs.Levels.{Levels}
use Rattle.psos_calls.specs.Levels.Lists.{HasLists}
use Rattle.psos_calls.specs.Plan.{Plan, Ask, if_done, if_guard, if_rep}
use Rattle.psos_calls.specs.Language.Capabilities.{uid}
use Rattle.psos_calls.specs.Plan.Parts.{Opened, read_rep, if_room, if_object_room, with_fresh}
use Rattle.psos_calls.specs.Plan.Trace.{IsTraceOf}
use Rattle.psos_plan_dir.specs.Reads.{Reader, open_with, IsNoPage}
use Rattle.psos_plan_life.specs.Parts.{Gives}

-- the directory of the new entry, the slot of that in it, and the new capability
pub record Vacancy : Type 0 where
  pub dir : Opened
  pub slot : ℕ
  pub new : Capability

-- the least slot that is not used
abbrev pub free_slot : Opened → ℕ
free_slot d = unwrap_or (slot_for d.slots) 0

-- the vacancy in a directory with a free slot
abbrev pub vacancy_in : Opened → Capability → Vacancy
vacancy_in d new = record { dir = d; slot = free_slot d; new = new }

-- it is found in this directory
abbrev pub finding : Opened → Name → (Vacancy → Plan) → Plan
finding d name go = if_room d name (λ k. with_fresh (λ new. go (record { dir = d; slot = k; new = new })))

-- the directory is opened, and between its representation and the slot of that a type is looked at
abbrev pub typed_dir : Capability → Capability → Reader
typed_dir dir of go =
    Ask (DirAt dir Create) (λ a. if_guard a (λ guard.
    Ask (RepOf (uid dir.uid)) (λ b. if_rep b (λ rep.
    Ask (TypeAt of) (λ c. if_done c (
    read_rep rep go))))))

-- the directory is opened, for an object of this type or for what has none
abbrev pub opening : Capability → Option Capability → Reader
opening dir None go = open_with dir Create go
opening dir (Some of) go = typed_dir dir of go

-- where there is room for one more object, in the directory of a capability
abbrev pub making : Capability → Option Capability → Name → (Vacancy → Plan) → Plan
making dir of name go = if_object_room (opening dir of (λ d. finding d name go))

-- ---- where a plan is in this part

-- behind the opened directory
pub record IsFinding (d : Opened) (name : Name) (trace : List Step) : Type 0 where
  pub levels : Levels
  pub go : Vacancy → Plan
  pub front : IsTraceOf (finding d name go) levels trace

-- behind the room for one more object
pub record IsOpening (dir : Capability) (of : Option Capability) (trace : List Step) : Type 0 where
  pub levels : Levels
  pub lists : HasLists levels
  pub go : Opened → Plan
  pub apart : (d : Opened) → IsNoPage (go d)
  pub front : IsTraceOf (opening dir of go) levels trace

-- at its start
pub record IsMaking (dir : Capability) (of : Option Capability) (name : Name) (trace : List Step) : Type 0 where
  pub levels : Levels
  pub lists : HasLists levels
  pub go : Vacancy → Plan
  pub front : IsTraceOf (making dir of name go) levels trace

-- ---- the part is past

-- a slot is free in the directory, the identifier was taken, and the plan goes on with them
pub record IsVacancy (part : (Vacancy → Plan) → Plan) (trace : List Step) (d : Opened) (new : Capability) (rest : List Step) : Type 0 where
  pub room : IsSome (slot_for d.slots)
  pub gives : Gives part trace (vacancy_in d new) rest
