-- Answers that are kept with their pages apart. States docs/requests.md, "Plans".
use Rattle.std.proofs.Common.{◌≡◌, ℕ, ◌<◌, ◌≤◌, List, [], ◌∷◌, ◌++◌, length, slice_index_or, refl, ap, ◌∙◌, arith, length-append}
use Rattle.std.proofs.lemmas.List.{map-append, get_or_append_left}
use Rattle.std.proofs.Math.Seq.{get_or-append_seam}
use Rattle.psos_words.specs.declared.word.Word.{Word}
use Rattle.psos_calls.specs.declared.level_answer.LevelAnswer.{LevelAnswer as AnswerOf}
use Rattle.psos_calls.specs.declared.level_answer.LevelAnswer.TheVariants.{Whole}
use Rattle.psos_calls.specs.Levels.Answers.{LevelAnswer}
use Rattle.psos_calls.specs.Plan.Told.{answer_of, answers_of, IsTold, AreTold, AreAnswers}

-- ---- pages that come behind change nothing

answer-longer : (pages more : List (List Word)) (a : AnswerOf ℕ) → IsTold (length pages) a → answer_of (pages ++ more) a ≡ answer_of pages a
answer-longer pages more (Whole k) h = ap Whole (get_or_append_left pages more [] k h)
answer-longer pages more _ h = refl

answers-longer : (pages more : List (List Word)) (told : List (AnswerOf ℕ)) → AreTold (length pages) told → answers_of (pages ++ more) told ≡ answers_of pages told
answers-longer pages more [] h = refl
answers-longer pages more (a ∷ told) (h, hs) =
    ap (λ (b : LevelAnswer). b ∷ answers_of (pages ++ more) told) (answer-longer pages more a h)
    ∙ ap (λ (rest : List LevelAnswer). answer_of pages a ∷ rest) (answers-longer pages more told hs)

told-longer : (n p : ℕ) → n ≤ p → (a : AnswerOf ℕ) → IsTold n a → IsTold p a
told-longer n p le (Whole k) h = omega arith
told-longer n p le _ h = h

all-longer : (n p : ℕ) → n ≤ p → (told : List (AnswerOf ℕ)) → AreTold n told → AreTold p told
all-longer n p le [] h = h
all-longer n p le (a ∷ told) (h, hs) = (told-longer n p le a h, all-longer n p le told hs)

told-with : (n : ℕ) (told : List (AnswerOf ℕ)) (a : AnswerOf ℕ) → AreTold n told → IsTold n a → AreTold n (told ++ a ∷ [])
told-with n [] a hs h = (h, tt)
told-with n (x ∷ told) a (hx, hs) h = (hx, told-with n told a hs h)

-- ---- one page more

module _ (pages : List (List Word)) (told : List (AnswerOf ℕ)) (words : List Word) (n : ℕ) (e : n ≡ length pages) where
  pub page-more : AreTold (length pages) told → answers_of (pages ++ words ∷ []) (told ++ Whole n ∷ []) ≡ answers_of pages told ++ Whole words ∷ []
  page-more among =
      map-append (answer_of (pages ++ words ∷ [])) told (Whole n ∷ [])
      ∙ ap (λ (front : List LevelAnswer). front ++ answers_of (pages ++ words ∷ []) (Whole n ∷ [])) (answers-longer pages (words ∷ []) told among)
      ∙ ap (λ (page : List Word). answers_of pages told ++ Whole page ∷ []) (ap (λ (k : ℕ). slice_index_or (pages ++ words ∷ []) k []) e ∙ get_or-append_seam pages words [] [])

  pub kept-page : (room more : ℕ) → room ≤ more → length told < 64 → AreAnswers room pages told → AreAnswers more (pages ++ words ∷ []) (told ++ Whole n ∷ [])
  kept-page room more le less k =
      let enough = k.room in
      let few = k.few_pages in
      let lp = length-append pages (words ∷ []) in
      let lt = length-append told (Whole n ∷ []) in
      record {
        room = omega arith;
        few = omega arith;
        few_pages = omega arith;
        are_told = told-with (length (pages ++ words ∷ [])) told (Whole n) (all-longer (length pages) (length (pages ++ words ∷ [])) (omega arith) told k.are_told) (omega arith);
      }
