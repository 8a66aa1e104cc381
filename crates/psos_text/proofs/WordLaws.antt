-- Cutting a line into its words.
use Rattle.std.proofs.Common.{◌≡◌, ℕ, ◌+◌, ◌<◌, Bool, true, false, cond, eqb, not, List, [], ◌∷◌, length, take, drop, refl, sym, ap, ◌∙◌, arith, length-take, length-drop}
use Rattle.std.specs.List.{position_or_len, slice_split, filter}
use Rattle.std.proofs.lemmas.List.{nil_from_length}
use Rattle.psos_text.specs.Lines.{words_of, is_empty, IsFirstWord}
use Rattle.psos_text.proofs.FirstPlaces.{is_byte, is_other, take_cons, drop_cons, position_or_len-le}

abbrev is_space : ℕ → Bool
is_space b = eqb b 32

abbrev kept_pieces : List (List ℕ) → List (List ℕ)
kept_pieces parts = filter (λ w. not (is_empty w)) parts

spaces_case : (b : ℕ) (bs : List ℕ) (n : ℕ) (t : Bool) → eqb b 32 ≡ t → words_of (drop n bs) ≡ words_of bs → words_of (drop (cond (not (not t)) (1 + n) 0) (b ∷ bs)) ≡ words_of (b ∷ bs)
unfolding words_of
spaces_case b bs n true e h = ap words_of (drop_cons n b bs) ∙ h ∙ rw e refl
spaces_case b bs n false e h = refl

-- spaces in front say nothing
pub after_spaces : (text : List ℕ) → words_of (drop (position_or_len (is_other 32) text) text) ≡ words_of text
after_spaces [] = refl
after_spaces (b ∷ bs) = spaces_case b bs (position_or_len (is_other 32) bs) (eqb b 32) refl (after_spaces bs)

-- the first piece, and the words after it
record Splits (text : List ℕ) (n : ℕ) : Type 0 where
  rest : List (List ℕ)
  pieces : slice_split is_space text ≡ take n text ∷ rest
  words : kept_pieces rest ≡ words_of (drop n text)

splits_case : (b : ℕ) (bs : List ℕ) (n : ℕ) (t : Bool) → eqb b 32 ≡ t → Splits bs n → Splits (b ∷ bs) (cond (not t) (1 + n) 0)
unfolding words_of
splits_case b bs n true e h = record { rest = slice_split is_space bs; pieces = rw e refl; words = rw e refl }
splits_case b bs n false e h = record {
  rest = h.rest;
  pieces = rw (e, h.pieces) (ap (λ (t : List ℕ). t ∷ h.rest) (sym (take_cons n b bs)));
  words = h.words ∙ ap words_of (sym (drop_cons n b bs));
}

splits : (text : List ℕ) → Splits text (position_or_len (is_byte 32) text)
unfolding words_of
splits [] = record { rest = []; pieces = refl; words = refl }
splits (b ∷ bs) = splits_case b bs (position_or_len (is_byte 32) bs) (eqb b 32) refl (splits bs)

first_kept : (w : List ℕ) (rest : List (List ℕ)) → 0 < length w → kept_pieces (w ∷ rest) ≡ w ∷ kept_pieces rest
first_kept [] rest h = absurd (omega arith)
first_kept (b ∷ bs) rest h = refl

-- a text that begins with a word is this word, and the words after it
pub word_first : (text : List ℕ) → 0 < position_or_len (is_byte 32) text → words_of text ≡ take (position_or_len (is_byte 32) text) text ∷ words_of (drop (position_or_len (is_byte 32) text) text)
unfolding words_of
word_first text some =
    let s = splits text in
    let n = position_or_len (is_byte 32) text in
    ap kept_pieces s.pieces
    ∙ first_kept (take n text) s.rest (omega (arith, length-take n text, position_or_len-le (is_byte 32) text))
    ∙ ap (λ (ws : List (List ℕ)). take n text ∷ ws) s.words

other_case : (b : ℕ) (bs : List ℕ) (n : ℕ) (t : Bool) → eqb b 32 ≡ t → (0 < length (drop n bs) → 0 < position_or_len (is_byte 32) (drop n bs))
    → 0 < length (drop (cond (not (not t)) (1 + n) 0) (b ∷ bs)) → 0 < position_or_len (is_byte 32) (drop (cond (not (not t)) (1 + n) 0) (b ∷ bs))
other_case b bs n true e h some = rw (drop_cons n b bs) (h (rw (← drop_cons n b bs) some))
other_case b bs n false e h some = rw e (omega arith)

-- what stands after the spaces in front begins with a word
pub other_first : (text : List ℕ) → 0 < length (drop (position_or_len (is_other 32) text) text) → 0 < position_or_len (is_byte 32) (drop (position_or_len (is_other 32) text) text)
other_first [] h = absurd (omega arith)
other_first (b ∷ bs) h = other_case b bs (position_or_len (is_other 32) bs) (eqb b 32) refl (other_first bs) h

-- nothing stands after the spaces
pub no_word : (text rest : List ℕ) (n : ℕ) → n ≡ position_or_len (is_other 32) text → rest ≡ drop n text → length rest ≡ 0 → words_of text ≡ []
unfolding words_of
no_word text rest n e r z =
    let none : drop (position_or_len (is_other 32) text) text ≡ [] = ap (λ (m : ℕ). drop m text) (sym e) ∙ sym r ∙ nil_from_length rest z in
    sym (after_spaces text) ∙ ap words_of none

-- a word stands after the spaces
pub a_word : (text rest : List ℕ) (n m : ℕ) → n ≡ position_or_len (is_other 32) text → rest ≡ drop n text → 0 < length rest → m ≡ position_or_len (is_byte 32) rest → IsFirstWord text n m
a_word text rest n m e r some em =
    let is : rest ≡ drop (position_or_len (is_other 32) text) text = r ∙ ap (λ (k : ℕ). drop k text) e in
    let longer : 0 < position_or_len (is_byte 32) rest = rw is (other_first text (rw (← is) some)) in
    let words : words_of rest ≡ take m rest ∷ words_of (drop m rest) = rw em (word_first rest longer) in
    record {
      some = omega arith;
      within = omega (arith, em, position_or_len-le (is_byte 32) rest, ap length r, length-drop n text);
      words = sym (after_spaces text) ∙ ap words_of (sym is) ∙ words ∙ ap (λ (t : List ℕ). take m t ∷ words_of (drop m t)) r;
    }
