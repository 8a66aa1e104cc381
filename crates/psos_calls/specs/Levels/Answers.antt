-- What levels answer, by how a page is told. States docs/levels.md, "Calls".
use Rattle.std.specs.Prelude.{List}
use Rattle.psos_words.specs.declared.word.Word.{Word}
use Rattle.psos_calls.specs.declared.no_page.NoPage.{NoPage}
use Rattle.psos_calls.specs.declared.level_answer.LevelAnswer.{LevelAnswer as AnswerOf}
use Rattle.psos_calls.specs.declared.level_answer.LevelAnswer.TheVariants.{Done, Entered, Got, Is, Guard, Rep, At, Slot, Len, Whole, New, No}

-- what a level answers: a page is told by its words
abbrev pub LevelAnswer : Type 0
LevelAnswer = AnswerOf (List Word)

-- the same answer, with its page told in another way
abbrev pub with_page : {P Q : Type 0} → (P → Q) → AnswerOf P → AnswerOf Q
with_page as_told Done = Done
with_page as_told (Entered label link) = Entered label link
with_page as_told (Got w) = Got w
with_page as_told (Is kind) = Is kind
with_page as_told (Guard guard) = Guard guard
with_page as_told (Rep rep) = Rep rep
with_page as_told (At page off) = At page off
with_page as_told (Slot slot) = Slot slot
with_page as_told (Len n) = Len n
with_page as_told (Whole page) = Whole (as_told page)
with_page as_told (New cap) = New cap
with_page as_told (No r) = No r

-- an answer that is no page, among those that may tell one
abbrev pub with_any_page : {Q : Type 0} → AnswerOf NoPage → AnswerOf Q
with_any_page answer = with_page (λ none. elim none [ ]) answer
