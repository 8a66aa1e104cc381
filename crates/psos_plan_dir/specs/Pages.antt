-- The pages that calls of a trace answered. States docs/requests.md, "Plans".
use Rattle.std.specs.Prelude.{ℕ, ◌<◌, ◌&&◌, Bool, not, List, [], ◌∷◌, length, IsTrue, nat_lt}
use Rattle.std.specs.List.{AllByRecursion}
use Rattle.psos_limits.specs.declared.TheConstants.{SLOTS}
use Rattle.psos_words.specs.declared.word.Word.{Word}
use Rattle.psos_words.specs.Directory.{has_never}
use Rattle.psos_dirrep.specs.Pages.{words_of}
use Rattle.psos_dirrep.specs.EntryLists.{entry_list, IsEntryList}
use Rattle.psos_calls.specs.declared.step.Step.{Step}
use Rattle.psos_calls.specs.Levels.Answers.{LevelAnswer}
use Rattle.psos_calls.specs.declared.level_answer.LevelAnswer.TheVariants.{Whole}
use Rattle.psos_calls.specs.Plan.Parts.{Opened}
use Rattle.psos_calls.specs.Plan.Steps.{is_nothing}

-- the page that was answered
abbrev pub page_in : LevelAnswer → List Word
page_in (Whole page) = page
page_in _ = []

-- the pages that were answered
abbrev pub pages_in : List Step → List (List Word)
pages_in [] = []
pages_in (s ∷ rest) = page_in s.answer ∷ pages_in rest

-- the last of them, or another where there is none
abbrev pub last_page : List Word → List Step → List Word
last_page other [] = other
last_page other (s ∷ rest) = last_page (page_in s.answer) rest

-- after calls that read pages, with these calls behind them, one more page is to be read: there are fewer than so many,
-- and the last of them tells of no slot that was never used
abbrev pub is_more : ℕ → List Word → List Step → List Step → Bool
is_more n other pages rest = is_nothing rest && nat_lt (length pages) n && not (has_never (last_page other pages))

-- a page was answered
abbrev pub IsWhole : LevelAnswer → Type 0
IsWhole (Whole page) = Unit {0}
IsWhole _ = ⊥

-- the pages that these calls answered, of a representation in this slot, are its entry list, and tell of a slot that
-- was never used
pub record IsOpen (slot : ℕ) (calls : List Step) : Type 0 where
  pub low : slot < SLOTS
  pub whole : AllByRecursion (λ (s : Step). IsWhole s.answer) calls
  pub list : IsEntryList (pages_in calls)
  pub never : IsTrue (has_never (words_of (pages_in calls)))

-- the directory that they are
abbrev pub opened_by : ℕ → List Step → Opened
opened_by slot calls = record { slot = slot; slots = entry_list (words_of (pages_in calls)) }
