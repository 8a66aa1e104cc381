-- How the answers of an open request are kept: pages lie apart, and an answer tells which is its own. States docs/requests.md, "Plans".
use Rattle.std.specs.Prelude.{ℕ, ◌<◌, ◌≤◌, ⊤, List, [], length, map, slice_index_or}
use Rattle.std.specs.List.{AllByRecursion}
use Rattle.psos_limits.specs.declared.TheConstants.{TRACE_ROOM}
use Rattle.psos_words.specs.declared.word.Word.{Word}
use Rattle.psos_calls.specs.declared.level_answer.LevelAnswer.{LevelAnswer as AnswerOf}
use Rattle.psos_calls.specs.declared.level_answer.LevelAnswer.TheVariants.{Whole}
use Rattle.psos_calls.specs.Levels.Answers.{LevelAnswer, with_page}

-- the answer that is kept so, with its page among these
abbrev pub answer_of : List (List Word) → AnswerOf ℕ → LevelAnswer
answer_of pages told = with_page (λ k. slice_index_or pages k []) told

abbrev pub answers_of : List (List Word) → List (AnswerOf ℕ) → List LevelAnswer
answers_of pages told = map (answer_of pages) told

-- the page of an answer is one of so many
abbrev pub IsTold : ℕ → AnswerOf ℕ → Type 0
IsTold pages (Whole k) = k < pages
IsTold pages _ = ⊤

abbrev pub AreTold : ℕ → List (AnswerOf ℕ) → Type 0
AreTold pages told = AllByRecursion (IsTold pages) told

-- answers are at most as many as there is room for, and no more of them are pages
pub record AreAnswers (capacity : ℕ) (pages : List (List Word)) (told : List (AnswerOf ℕ)) : Type 0 where
  pub room : TRACE_ROOM ≤ capacity
  pub few : length told ≤ TRACE_ROOM
  pub few_pages : length pages ≤ length told
  pub are_told : AreTold (length pages) told
