-- A plan that reads a directory, one call after another.
use Rattle.std.proofs.Common.{◌≡◌, List, ◌∷◌, sym, ap, subst, ◌∙◌}
use Rattle.psos_calls.specs.declared.step.Step.{Step}
use Rattle.psos_calls.specs.Levels.Calls.{LevelCall}
use Rattle.psos_calls.specs.Levels.Answers.{LevelAnswer}
use Rattle.psos_calls.specs.Levels.{Levels, act}
use Rattle.psos_calls.specs.Plan.{Plan, Ask}
use Rattle.psos_calls.specs.Plan.Parts.{Opened}
use Rattle.psos_calls.specs.Plan.Trace.{followed, next_of, IsTraceOf}
use Rattle.psos_plan_dir.specs.declared.reading.Reading.{Reading}
use Rattle.psos_plan_dir.specs.declared.reading.Reading.TheVariants as readings
use Rattle.psos_plan_dir.specs.Reads.{Reader, IsFront, GoesOn, Reads}

pub goes-then : (before middle after : Reader) (trace between rest : List Step) → GoesOn before middle trace between → GoesOn middle after between rest → GoesOn before after trace rest
goes-then before middle after trace between rest a b = record { is = λ go. a.is go ∙ b.is go; front = λ l go h. b.front l go (a.front l go h) }

pub reads-on : (before after : Reader) (trace rest : List Step) → GoesOn before after trace rest → (r : Reading) → Reads after rest r → Reads before trace r
reads-on before after trace rest g (readings.Next n) h = record { is = λ go. ap next_of (g.is go) ∙ h.is go }
reads-on before after trace rest g (readings.Done d more) h = goes-then before after (λ go. go d) trace rest more g h

-- a call that changes nothing, and its answer
pub ask-on : (call : LevelCall) (cont : (Opened → Plan) → LevelAnswer → Plan) (after : Reader) (a : Step) (rest : List Step) (answer : LevelAnswer)
    → ((l : Levels) → (act l call).0 ≡ l) → ((go : Opened → Plan) → cont go answer ≡ after go) → a.answer ≡ answer
    → GoesOn (λ go. Ask call (cont go)) after (a ∷ rest) rest
ask-on call cont after a rest answer stays same e = record {
  is = λ go. ap (λ (x : LevelAnswer). followed (cont go x) rest) e ∙ ap (λ (p : Plan). followed p rest) (same go);
  front = λ l go h.
      let given : (act l call).1 ≡ answer = sym (ap (λ (s : Step). s.answer) h.0) ∙ e in
      let one = subst (λ (x : LevelAnswer). IsTraceOf (cont go x) (act l call).0 rest) given h.1 in
      let two = subst (λ (p : Plan). IsTraceOf p (act l call).0 rest) (same go) one in
      subst (λ (m : Levels). IsTraceOf (after go) m rest) (stays l) two;
}

-- the front of a run, past such a call
pub front-on : (before after : Reader) (l : Levels) (trace rest : List Step) → GoesOn before after trace rest → IsFront before l trace → IsFront after l rest
front-on before after l trace rest g f = record { lists = f.lists; go = f.go; apart = f.apart; front = g.front l f.go f.front }
