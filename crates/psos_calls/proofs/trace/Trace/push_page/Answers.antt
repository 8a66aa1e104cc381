use Rattle.std.proofs.Common.{◌≡◌, ◌∷◌, [], ◌++◌, List, length, sym, ap, ◌∙◌, refl, arith}
use Rattle.psos_calls.specs.declared.level.Level.{Level}
use Rattle.psos_calls.specs.declared.step.Step.{Step}
use Rattle.psos_calls.specs.Levels.{level_of}
use Rattle.psos_calls.specs.Levels.Calls.{LevelCall}
use Rattle.psos_calls.specs.Levels.Answers.{LevelAnswer}
use Rattle.psos_calls.specs.declared.level_answer.LevelAnswer.TheVariants.{Whole}
use Rattle.psos_calls.specs.Plan.Steps.{steps_of}
use Rattle.psos_calls.proofs.TraceSteps.{steps-length, steps-more, calls-few, asked-within, is-trace}
use Rattle.psos_calls.proofs.trace.Trace.push_page.Goals as goal

pub after-self-inside-requires-clause-room : goal.after-self-inside-requires-clause-room
after-self-inside-requires-clause-room c =
    let few = calls-few c.self.inside.calls c.self.inside.answers c.args.self.now c.self.invariant.answered c.self.view_is in
    let room = c.requires.room in
    let len = c.len.ensures in
    omega arith

pub after-self-inside-requires-clause-few : goal.after-self-inside-requires-clause-few
after-self-inside-requires-clause-few c =
    let few = asked-within _ _ _ c.self.inside.calls c.self.inside.answers c.self.invariant in
    let len = c.len.ensures in
    omega arith

pub push-requires : goal.push-requires
push-requires c =
    let few = calls-few c.self.inside.calls c.self.inside.answers c.args.self.now c.self.invariant.answered c.self.view_is in
    let room = c.requires.room in
    omega arith

pub push_page-requires-clause-room : goal.push_page-requires-clause-room
push_page-requires-clause-room c =
    let few = calls-few c.self.inside.calls c.self.inside.answers c.args.self.now c.self.invariant.answered c.self.view_is in
    let answered = c.self.invariant.answered in
    let room = c.requires.room in
    omega arith

pub invariant_of-self : goal.invariant_of-self
invariant_of-self c =
    let calls = c.self.inside.calls in
    let answers = c.self.inside.answers in
    let call = c.args.call.now in
    let answer : LevelAnswer = Whole c.args.words.now in
    let s : Step = record { level = level_of call; call = call; answer = answer } in
    let len : length (steps_of calls answers) ≡ c.len.result = steps-length calls answers c.self.invariant.answered ∙ sym c.len.ensures in
    let dir = c.after-self-inside.ensures.last_dir (steps_of calls answers) s len refl c.self.invariant.last_dir in
    let pages = c.after-self-inside.ensures.last_pages (steps_of calls answers) s refl c.self.invariant.last_pages in
    is-trace c.after-self-inside.result.asked c.after-self-inside.result.last_dir c.after-self-inside.result.reading calls answers (level_of call) call answer c.push.new.self c.push_page.new.self c.self.invariant.answered c.push.ensures c.push_page.ensures dir pages

pub returns : goal.returns
returns c =
    let calls = c.self.inside.calls in
    let answers = c.self.inside.answers in
    let call = c.args.call.now in
    let answer : LevelAnswer = Whole c.args.words.now in
    let s : Step = record { level = level_of call; call = call; answer = answer } in
    ap (λ (cs : List (Level × LevelCall)). steps_of cs c.push_page.new.self) c.push.ensures
    ∙ ap (λ (told : List LevelAnswer). steps_of (calls ++ (level_of call, call) ∷ []) told) c.push_page.ensures
    ∙ steps-more calls answers (level_of call) call answer c.self.invariant.answered
    ∙ ap (λ (steps : List Step). steps ++ s ∷ []) c.self.view_is
