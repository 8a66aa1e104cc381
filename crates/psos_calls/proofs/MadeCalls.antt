-- Calls of a plan that were made and not refused.
use Rattle.std.proofs.Common.{◌≡◌, List, ◌∷◌, refl, sym, ap, subst, ◌∙◌}
use Rattle.psos_calls.specs.declared.refusal.Refusal.{Refusal}
use Rattle.psos_calls.specs.Levels.Calls.{LevelCall}
use Rattle.psos_calls.specs.Levels.Answers.{LevelAnswer}
use Rattle.psos_calls.specs.declared.level_answer.LevelAnswer.TheVariants.{Done, Entered, Got, Is, Guard, Rep, At, Slot, Len, Whole, New, No}
use Rattle.psos_calls.specs.declared.step.Step.{Step}
use Rattle.psos_calls.specs.Levels.{Levels, act}
use Rattle.psos_calls.specs.Plan.{Plan, Ask, if_done}
use Rattle.psos_calls.specs.Plan.Trace.{IsTraceOf}

-- the answer is no refusal
abbrev pub IsNotRefused : LevelAnswer → Type 0
IsNotRefused a = (r : Refusal) → a ≡ No r → ⊥

-- every answer but a refusal lets a plan go on
pub done_goes_on : (a : LevelAnswer) → IsNotRefused a → (go : Plan) → if_done a go ≡ go
done_goes_on (No r) other go = absurd (other r refl)
done_goes_on Done other go = refl
done_goes_on (Entered label link) other go = refl
done_goes_on (Got w) other go = refl
done_goes_on (Is kind) other go = refl
done_goes_on (Guard guard) other go = refl
done_goes_on (Rep rep) other go = refl
done_goes_on (At page off) other go = refl
done_goes_on (Slot slot) other go = refl
done_goes_on (Len n) other go = refl
done_goes_on (Whole page) other go = refl
done_goes_on (New cap) other go = refl

-- a front of a run goes on behind a call that only has to be made
pub made_leads : (call : LevelCall) (s : Step) (rest : List Step) → IsNotRefused s.answer → (l : Levels) (go : Plan)
    → IsTraceOf (Ask call (λ a. if_done a go)) l (s ∷ rest) → IsTraceOf go (act l call).0 rest
made_leads call s rest other l go front =
    let same : if_done (act l call).1 go ≡ go = ap (λ (a : LevelAnswer). if_done a go) (sym (ap (λ (x : Step). x.answer) front.0)) ∙ done_goes_on s.answer other go in
    let P : Plan → Type 0 = λ p. IsTraceOf p (act l call).0 rest in
    subst P same front.1
