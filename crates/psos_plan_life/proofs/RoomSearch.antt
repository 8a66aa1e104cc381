-- Room in a directory, and the part of a plan that looks for it.
use Rattle.std.proofs.Common.{◌≡◌, ℕ, false, List, [], ◌∷◌, Option, Some, None, IsSome, Result, Ok, Err, MatchResult, refl, sym, ap, subst, ◌∙◌}
use Rattle.std.specs.Option.{unwrap_or}
use Rattle.psos_caps.specs.Capability.{Capability}
use Rattle.psos_words.specs.Directory.{Found, find, slot_for}
use Rattle.psos_text.specs.declared.name.Name.{Name}
use Rattle.psos_calls.specs.declared.refusal.Refusal.TheVariants.{NameTaken, Exhausted}
use Rattle.psos_calls.specs.declared.tab.Tab.TheVariants.{Entries}
use Rattle.psos_calls.specs.declared.step.Step.{Step}
use Rattle.psos_calls.specs.declared.next.Next.{Next}
use Rattle.psos_calls.specs.Plan.{Plan, refuse}
use Rattle.psos_calls.specs.Language.Tests.{if_none, if_there}
use Rattle.psos_calls.specs.Plan.Steps.{is_nothing}
use Rattle.psos_calls.specs.Plan.Parts.{Opened, with_fresh}
use Rattle.psos_calls.specs.Plan.Trace.{followed, next_of, IsTraceOf}
use Rattle.psos_plan_life.specs.Parts.{Gives, Stops}
use Rattle.psos_plan_life.specs.Vacancies.{Vacancy, free_slot, finding, IsFinding, IsVacancy}
use Rattle.psos_plan_dir.specs.Reads.{IsNoPage}

-- the directory has no entry of the name, and a slot that is not used
pub record HasRoom (d : Opened) (name : Name) : Type 0 where
  pub new : find d.slots name ≡ None
  pub room : IsSome (slot_for d.slots)

-- the part by what is found, and by the slot
abbrev Tried : Option Found → Option ℕ → (ℕ → Plan) → Plan
Tried found slot go = if_none found (λ _. refuse NameTaken) (if_there slot (refuse (Exhausted Entries)) go)

-- what the part goes on with
abbrev Taking : Opened → (Vacancy → Plan) → ℕ → Plan
Taking d go k = with_fresh (λ new. go (record { dir = d; slot = k; new = new }))

-- where there is room, an identifier is taken for the free slot
pub room_goes_on : (d : Opened) (name : Name) → HasRoom d name → (go : Vacancy → Plan) → finding d name go ≡ Taking d go (free_slot d)
room_goes_on d name room go = ap (λ f. Tried f (slot_for d.slots) (Taking d go)) room.new ∙ by (slot_for d.slots) room.room
  where
    by : (slot : Option ℕ) → IsSome slot → Tried None slot (Taking d go) ≡ Taking d go (unwrap_or slot 0)
    by None some = cc
    by (Some k) some = refl

-- and where a call was made, there was room
pub room_was : (d : Opened) (name : Name) (s : Step) (rest : List Step) → IsFinding d name (s ∷ rest) → HasRoom d name
room_was d name s rest front = by (find d.slots name) (slot_for d.slots) refl refl front.front
  where
    by : (found : Option Found) (slot : Option ℕ) → find d.slots name ≡ found → slot_for d.slots ≡ slot → IsTraceOf (Tried found slot (Taking d front.go)) front.levels (s ∷ rest) → HasRoom d name
    by (Some f) slot is at h = elim h [ ]
    by None None is at h = elim h [ ]
    by None (Some k) is at h = record { new = is; room = subst IsSome (sym at) refl }

-- it is no call for a page
pub finding_apart : (d : Opened) (name : Name) (go : Vacancy → Plan) → IsNoPage (finding d name go)
finding_apart d name go = by (find d.slots name) (slot_for d.slots)
  where
    by : (found : Option Found) (slot : Option ℕ) → IsNoPage (Tried found slot (Taking d go))
    by (Some f) slot = tt
    by None None = tt
    by None (Some k) = tt

-- ---- calls were made

pub vacancy_found : (d : Opened) (name : Name) (trace : List Step) → HasRoom d name → (r : Result (Capability × List Step) Next)
    → MatchResult r (λ p. Gives with_fresh trace p.0 p.1) (λ n. Stops with_fresh trace n)
    → MatchResult r (λ p. IsVacancy (finding d name) trace d p.0 p.1) (λ n. Stops (finding d name) trace n)
vacancy_found d name trace room (Ok p) h = record {
  room = room.room;
  gives = record { goes_on = λ go. ap (λ p. followed p trace) (room_goes_on d name room go) ∙ h.goes_on (λ new. go (record { dir = d; slot = free_slot d; new = new })) };
}
vacancy_found d name trace room (Err n) h = record { comes = λ go. h.comes (λ new. go (record { dir = d; slot = free_slot d; new = new })) ∙ ap (λ p. next_of (followed p trace)) (sym (room_goes_on d name room go)) }

pub room_found : (d : Opened) (name : Name) (trace : List Step) → false ≡ is_nothing trace → IsFinding d name trace → HasRoom d name
room_found d name [] some front = cc
room_found d name (s ∷ rest) some front = room_was d name s rest front
