-- A directory that is opened, with a type looked at between its representation and the slot of that.
use Rattle.std.proofs.Common.{◌≡◌, List, ◌∷◌, Some, refl, sym, ap, ◌∙◌}
use Rattle.psos_caps.specs.Capability.{Capability}
use Rattle.psos_caps.specs.declared.cap.Uid.{Uid}
use Rattle.psos_caps.specs.declared.rights.Rights.{Rights}
use Rattle.psos_calls.specs.declared.right.Right.TheVariants.{Create}
use Rattle.psos_calls.specs.declared.next.Next.{Next}
use Rattle.psos_calls.specs.declared.level_call.LevelCall.TheVariants.{DirAt, RepOf, TypeAt}
use Rattle.psos_calls.specs.declared.level_answer.LevelAnswer.TheVariants.{Guard, Rep}
use Rattle.psos_calls.specs.declared.step.Step.{Step}
use Rattle.psos_calls.specs.Levels.Level9.{rep_of}
use Rattle.psos_calls.specs.Plan.{Ask, if_done, if_guard, if_rep}
use Rattle.psos_calls.specs.Language.Capabilities.{uid}
use Rattle.psos_calls.specs.Plan.Parts.{read_rep}
use Rattle.psos_calls.specs.Plan.Trace.{next_of}
use Rattle.psos_plan_dir.specs.Reads.{Reader, GoesOn, IsNext, IsRepFront}
use Rattle.psos_plan_dir.proofs.DirectoryReaders.{guard-live}
use Rattle.psos_plan_dir.proofs.PlanSteps.{ask-on, goes-then}
use Rattle.psos_plan_life.specs.Vacancies.{opening, IsOpening}
use Rattle.psos_plan_life.specs.Parts.{Gives, Stops, Leads, doing}

module _ (dir of : Capability) (a b : Step) (typed : List Step) (guard : Rights) (rep : Uid) (first : a.answer ≡ Guard guard) (second : b.answer ≡ Rep rep) where
  -- behind the representation, and behind the directory
  abbrev Typed : Uid → Reader
  Typed u go = Ask (TypeAt of) (λ x. if_done x (read_rep u.0 go))

  abbrev Guarded : Reader
  Guarded go = Ask (RepOf (uid dir.uid)) (λ x. if_rep x (λ n. Typed (uid n) go))

  on_guard : GoesOn (opening dir (Some of)) Guarded (a ∷ b ∷ typed) (b ∷ typed)
  on_guard = ask-on (DirAt dir Create) (λ go x. if_guard x (λ g. Guarded go)) Guarded a (b ∷ typed) (Guard guard) (λ l. refl) (λ go. refl) first

  on_rep : GoesOn Guarded (Typed rep) (b ∷ typed) (typed)
  on_rep = ask-on (RepOf (uid dir.uid)) (λ go x. if_rep x (λ n. Typed (uid n) go)) (Typed rep) b (typed) (Rep rep) (λ l. refl) (λ go. refl) second

  -- both calls were made and not refused
  on_typed : GoesOn (opening dir (Some of)) (Typed rep) (a ∷ b ∷ typed) typed
  on_typed = goes-then (opening dir (Some of)) Guarded (Typed rep) (a ∷ b ∷ typed) (b ∷ typed) typed on_guard on_rep

  -- the third was not made, or was refused
  pub typed_stops : (next : Next) → Stops (doing (TypeAt of)) typed next → IsNext (opening dir (Some of)) (a ∷ b ∷ typed) next
  typed_stops next stops = record { is = λ go. ap next_of (on_typed.is go) ∙ sym (stops.comes (λ _. read_rep rep.0 go)) }

  pub typed_goes_on : (rest : List Step) → Gives (doing (TypeAt of)) typed tt rest → Leads (TypeAt of) typed rest → GoesOn (opening dir (Some of)) (read_rep rep.0) (a ∷ b ∷ typed) rest
  typed_goes_on rest past lead = goes-then (opening dir (Some of)) (Typed rep) (read_rep rep.0) (a ∷ b ∷ typed) typed rest on_typed (record {
    is = λ go. past.goes_on (λ _. read_rep rep.0 go);
    front = λ l go. lead.front l (λ _. read_rep rep.0 go);
  })

  pub typed_front : (rest : List Step) → GoesOn (opening dir (Some of)) (read_rep rep.0) (a ∷ b ∷ typed) rest → IsOpening dir (Some of) (a ∷ b ∷ typed) → IsRepFront rep.0 rest
  typed_front rest on o =
      let is = guard-live o.levels.dirs dir Create guard (sym (ap (λ (s : Step). s.answer) o.front.0) ∙ first) in
      let asked = on_guard.front o.levels o.go o.front in
      let answer : Rep (uid (rep_of o.levels.types dir.uid)) ≡ Rep rep = sym (ap (λ (s : Step). s.answer) asked.0) ∙ second in
      let named : uid (rep_of o.levels.types dir.uid) ≡ rep = cc in
      record {
        levels = o.levels;
        front = record { lists = o.lists; go = o.go; apart = o.apart; front = on.front o.levels o.go o.front };
        dir = dir.uid;
        guard = is.guard;
        live = is.live;
        is = ap (λ (u : Uid). u.0) named;
      }
