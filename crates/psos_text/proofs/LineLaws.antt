-- Cutting a text into its lines.
use Rattle.std.proofs.Common.{◌≡◌, ℕ, ◌+◌, ◌<◌, ◌≤◌, Bool, true, false, cond, eqb, not, List, [], ◌∷◌, length, take, drop, refl, sym, ap, ◌∙◌, arith}
use Rattle.std.specs.List.{position_or_len, onto_first, before_first, after_first}
use Rattle.psos_text.specs.Lines.{lines_of}
use Rattle.psos_text.proofs.FirstPlaces.{is_byte, take_cons, drop_cons, position_or_len-le}

-- the first n bytes, and the lines of what stands after the byte behind them
abbrev pub piece_and_rest : ℕ → List ℕ → List (List ℕ)
piece_and_rest n text = take n text ∷ lines_of (drop (1 + n) text)

line_step : (b : ℕ) (bs : List ℕ) (n : ℕ) → (0 < length bs → lines_of bs ≡ piece_and_rest n bs) → n ≤ length bs → onto_first b (lines_of bs) ≡ piece_and_rest (1 + n) (b ∷ bs)
line_step b [] n h le = let z : n ≡ 0 = omega arith in rw z refl
line_step b (c ∷ cs) n h le =
    ap (λ (ls : List (List ℕ)). onto_first b ls) (h (omega arith))
    ∙ ap (λ (t : List ℕ). t ∷ lines_of (drop (1 + n) (c ∷ cs))) (sym (take_cons n b (c ∷ cs)))
    ∙ ap (λ (t : List ℕ). take (1 + n) (b ∷ c ∷ cs) ∷ lines_of t) (sym (drop_cons (1 + n) b (c ∷ cs)))

line_case : (b : ℕ) (bs : List ℕ) (n : ℕ) (t : Bool) → (0 < length bs → lines_of bs ≡ piece_and_rest n bs) → n ≤ length bs → cond t ([] ∷ lines_of bs) (onto_first b (lines_of bs)) ≡ piece_and_rest (cond (not t) (1 + n) 0) (b ∷ bs)
line_case b bs n true h le = refl
line_case b bs n false h le = line_step b bs n h le

-- a text that is not empty is its first line, and the lines after it
pub line_first : (text : List ℕ) → 0 < length text → lines_of text ≡ piece_and_rest (position_or_len (is_byte 10) text) text
line_first [] h = absurd (omega arith)
line_first (b ∷ bs) h = line_case b bs (position_or_len (is_byte 10) bs) (eqb b 10) (λ more. line_first bs more) (position_or_len-le (is_byte 10) bs)

-- the same in the words `before_first` and `after_first`
pub lines_cut : (text : List ℕ) → 0 < length text → lines_of text ≡ before_first (is_byte 10) text ∷ lines_of (after_first (is_byte 10) text)
lines_cut text h =
    let n = position_or_len (is_byte 10) text in
    line_first text h ∙ ap (λ (m : ℕ). take n text ∷ lines_of (drop m text)) (let e : 1 + n ≡ n + 1 = omega arith in e)
