use Rattle.std.proofs.Common.{List, ◌∷◌, [], ◌++◌, ap, ◌∙◌}
use Rattle.psos_words.specs.declared.word.Word.{Word}
use Rattle.psos_calls.specs.declared.level_answer.LevelAnswer.TheVariants.{Whole}
use Rattle.psos_calls.specs.Levels.Answers.{LevelAnswer}
use Rattle.psos_calls.specs.Plan.Told.{answers_of}
use Rattle.psos_calls.proofs.AnswersApart.{page-more}
use Rattle.psos_calls.proofs.kept_answers.KeptAnswers.push_page.Goals as goal

pub returns : goal.returns
returns c =
    let pages = c.self.inside.pages in
    let told = c.self.inside.told.items in
    let words = c.args.words.now in
    ap (λ (ps : List (List Word)). answers_of ps c.push_reserved.new.self.items) c.push.ensures
    ∙ ap (λ ts. answers_of (pages ++ words ∷ []) ts) c.push_reserved.ensures.items
    ∙ page-more pages told words c.len.result c.len.ensures c.self.invariant.are_told
    ∙ ap (λ (front : List LevelAnswer). front ++ Whole words ∷ []) c.self.view_is
