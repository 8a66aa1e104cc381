-- Fronts of runs behind a call.
use Rattle.std.proofs.Common.{◌≡◌, List, ◌∷◌, subst}
use Rattle.psos_calls.specs.Levels.Calls.{LevelCall}
use Rattle.psos_calls.specs.declared.step.Step.{Step}
use Rattle.psos_calls.specs.Plan.Trace.{IsTraceOf}
use Rattle.psos_calls.proofs.MadeCalls.{IsNotRefused, made_leads}
use Rattle.psos_plan_life.specs.Parts.{Leads, doing}

-- a call that was made and not refused
pub leads : (call : LevelCall) (s : Step) (trace rest : List Step) → trace ≡ s ∷ rest → IsNotRefused s.answer → Leads call trace rest
leads call s trace rest is other = record {
  front = λ l go front.
      let P : List Step → Type 0 = λ t. IsTraceOf (doing call go) l t in
      made_leads call s rest other l (go tt) (subst P is front);
}
