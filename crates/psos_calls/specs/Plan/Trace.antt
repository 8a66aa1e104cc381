-- What a plan does after a trace. States docs/requests.md, "Plans".
use Rattle.std.specs.Prelude.{◌≡◌, List, [], ◌∷◌, map}
use Rattle.psos_calls.specs.declared.level.Level.{Level}
use Rattle.psos_calls.specs.Levels.Calls.{LevelCall}
use Rattle.psos_calls.specs.declared.step.Step.{Step}
use Rattle.psos_calls.specs.declared.next.Next.{Next}
use Rattle.psos_calls.specs.declared.next.Next.TheVariants.{Call, Close}
use Rattle.psos_calls.specs.Levels.{Levels, level_of, act}
use Rattle.psos_calls.specs.Plan.{Plan, Ask}
use Rattle.psos_calls.specs.Plan as plans

-- the plan that is left after the answers of a trace
abbrev pub followed : Plan → List Step → Plan
followed (plans.Close reply effect) trace = plans.Close reply effect
followed (Ask call go) [] = Ask call go
followed (Ask call go) (s ∷ trace) = followed (go s.answer) trace

-- what comes next
abbrev pub next_of : Plan → Next
next_of (plans.Close reply effect) = Close reply effect
next_of (Ask call go) = Call (level_of call) call

-- the trace is a front of the plan's run from these levels: each step has the call and the answer of the run
abbrev pub IsTraceOf : Plan → Levels → List Step → Type 0
IsTraceOf plan l [] = Unit {0}
IsTraceOf (plans.Close reply effect) l (s ∷ trace) = ⊥
IsTraceOf (Ask call go) l (s ∷ trace) =
    (s ≡ record { level = level_of call; call = call; answer = (act l call).1 }) × IsTraceOf (go (act l call).1) (act l call).0 trace

-- the calls of a trace, without their answers
abbrev pub calls_in : List Step → List (Level × LevelCall)
calls_in trace = map (λ (s : Step). (s.level, s.call)) trace
