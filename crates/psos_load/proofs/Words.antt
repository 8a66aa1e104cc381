-- Words that stand in a line, one space apart.
use Rattle.std.proofs.Common.{◌≡◌, ℕ, ◌*◌, ◌^◌, ◌<◌, ◌≤◌, Bool, true, false, ◌&&◌, ◌||◌, not, eqb, leb, List, [], ◌∷◌, ◌++◌, length, decimal, IsTrue, refl, ap, ◌∙◌, arith, length-append}
use Rattle.std.specs.List.{list_all, slice_split, onto_first, filter, AllByRecursion}
use Rattle.std.proofs.lemmas.Bool.{and_parts, leb-true, le-leb, ne_eqb}
use Rattle.std.proofs.lemmas.Fmt.{length-decimal-le}
use Rattle.psos_text.specs.Lines.{words_of, is_empty}
use Rattle.psos_text.specs.Number.{is_digit}
use Rattle.psos_text.specs.Name.{is_name_byte, is_name}
use Rattle.psos_text.proofs.NumberLaws.{decimal_is_numeral}
use Rattle.psos_model.specs.Text.Operands.{Text}
use Rattle.psos_model.specs.Text.Spelling.{is_printable, is_line}

-- a byte that is printed and no space
abbrev pub is_visible : ℕ → Bool
is_visible b = leb 33 b && leb b 126

-- one to sixteen of them
abbrev pub is_word : Text → Bool
is_word w = leb 1 (length w) && leb (length w) 16 && list_all is_visible w

-- the words, one space apart
abbrev pub joined : List Text → Text
joined [] = []
joined (w ∷ []) = w
joined (w ∷ v ∷ ws) = w ++ 32 ∷ joined (v ∷ ws)

abbrev pub AreWords : List Text → Type 0
AreWords ws = AllByRecursion (λ w. IsTrue (is_word w)) ws

-- ---- the parts of a word

pub both : (a b : Bool) → a ≡ true → b ≡ true → (a && b) ≡ true
both true true e f = refl
both true false e f = f
both false b e f = e

visible_parts : (b : ℕ) → is_visible b ≡ true → (33 ≤ b) × (b ≤ 126)
visible_parts b h =
    let p = and_parts (leb 33 b) (leb b 126) h in
    (leb-true 33 b p.0, leb-true b 126 p.1)

pub visible_of_parts : (b : ℕ) → 33 ≤ b → b ≤ 126 → is_visible b ≡ true
visible_of_parts b low high = both (leb 33 b) (leb b 126) (le-leb 33 b low) (le-leb b 126 high)

word_parts : (w : Text) → IsTrue (is_word w) → (1 ≤ length w) × (length w ≤ 16) × (list_all is_visible w ≡ true)
word_parts w h =
    let p = and_parts (leb 1 (length w) && leb (length w) 16) (list_all is_visible w) h in
    let q = and_parts (leb 1 (length w)) (leb (length w) 16) p.0 in
    (leb-true 1 (length w) q.0, leb-true (length w) 16 q.1, p.1)

pub word_of_parts : (w : Text) → 1 ≤ length w → length w ≤ 16 → list_all is_visible w ≡ true → IsTrue (is_word w)
word_of_parts w some few all =
    both (leb 1 (length w) && leb (length w) 16) (list_all is_visible w)
    (both (leb 1 (length w)) (leb (length w) 16) (le-leb 1 (length w) some) (le-leb (length w) 16 few)) all

-- ---- the words of the line

-- a piece without spaces, to the end or to a space
splits_last : (w : Text) → list_all is_visible w ≡ true → slice_split (λ b. eqb b 32) w ≡ w ∷ []
splits_last [] h = refl
splits_last (b ∷ w) h =
    let p = and_parts (is_visible b) (list_all is_visible w) h in
    let q = visible_parts b p.0 in
    let other : eqb b 32 ≡ false = ne_eqb b 32 (λ e. omega arith) in
    rw other (ap (λ (ls : List Text). onto_first b ls) (splits_last w p.1))

splits_more : (w rest : Text) → list_all is_visible w ≡ true → slice_split (λ b. eqb b 32) (w ++ 32 ∷ rest) ≡ w ∷ slice_split (λ b. eqb b 32) rest
splits_more [] rest h = refl
splits_more (b ∷ w) rest h =
    let p = and_parts (is_visible b) (list_all is_visible w) h in
    let q = visible_parts b p.0 in
    let other : eqb b 32 ≡ false = ne_eqb b 32 (λ e. omega arith) in
    rw other (ap (λ (ls : List Text). onto_first b ls) (splits_more w rest p.1))

abbrev kept_pieces : List Text → List Text
kept_pieces ls = filter (λ w. not (is_empty w)) ls

kept_word : (w : Text) (ls : List Text) → 1 ≤ length w → kept_pieces (w ∷ ls) ≡ w ∷ kept_pieces ls
kept_word [] ls some = absurd (omega arith)
kept_word (b ∷ w) ls some = refl

-- a line of words has these words
pub words_of_joined : (ws : List Text) → AreWords ws → words_of (joined ws) ≡ ws
unfolding words_of
words_of_joined [] h = refl
words_of_joined (w ∷ []) h =
    let p = word_parts w h.0 in
    ap kept_pieces (splits_last w p.2) ∙ kept_word w [] p.0
words_of_joined (w ∷ v ∷ ws) h =
    let p = word_parts w h.0 in
    ap kept_pieces (splits_more w (joined (v ∷ ws)) p.2)
    ∙ kept_word w (slice_split (λ b. eqb b 32) (joined (v ∷ ws))) p.0
    ∙ ap (λ (rest : List Text). w ∷ rest) (words_of_joined (v ∷ ws) h.1)

-- ---- the bytes of the line

visible_is_printable : (w : Text) → list_all is_visible w ≡ true → list_all is_printable w ≡ true
visible_is_printable [] h = refl
visible_is_printable (b ∷ w) h =
    let p = and_parts (is_visible b) (list_all is_visible w) h in
    let q = visible_parts b p.0 in
    both (is_printable b) (list_all is_printable w) (both (leb 32 b) (leb b 126) (le-leb 32 b (omega arith)) (le-leb b 126 q.1)) (visible_is_printable w p.1)

printable_more : (w rest : Text) → list_all is_visible w ≡ true → list_all is_printable rest ≡ true → list_all is_printable (w ++ 32 ∷ rest) ≡ true
printable_more [] rest h more = more
printable_more (b ∷ w) rest h more =
    let p = and_parts (is_visible b) (list_all is_visible w) h in
    let q = visible_parts b p.0 in
    both (is_printable b) (list_all is_printable (w ++ 32 ∷ rest)) (both (leb 32 b) (leb b 126) (le-leb 32 b (omega arith)) (le-leb b 126 q.1)) (printable_more w rest p.1 more)

pub joined_is_printable : (ws : List Text) → AreWords ws → list_all is_printable (joined ws) ≡ true
joined_is_printable [] h = refl
joined_is_printable (w ∷ []) h = visible_is_printable w (word_parts w h.0).2
joined_is_printable (w ∷ v ∷ ws) h = printable_more w (joined (v ∷ ws)) (word_parts w h.0).2 (joined_is_printable (v ∷ ws) h.1)

pub joined_is_short : (ws : List Text) → AreWords ws → length (joined ws) ≤ 17 * length ws
joined_is_short [] h = omega arith
joined_is_short (w ∷ []) h = let p = word_parts w h.0 in omega arith
joined_is_short (w ∷ v ∷ ws) h =
    let p = word_parts w h.0 in
    let rest = joined_is_short (v ∷ ws) h.1 in
    omega (arith, length-append w (32 ∷ joined (v ∷ ws)))

-- few words make a line
pub joined_is_line : (ws : List Text) → AreWords ws → length ws ≤ 8 → IsTrue (is_line (joined ws))
joined_is_line ws h few =
    let short = joined_is_short ws h in
    both (leb (length (joined ws)) 200) (list_all is_printable (joined ws)) (le-leb (length (joined ws)) 200 (omega arith)) (joined_is_printable ws h)

-- ---- numbers and names

digit_parts : (b : ℕ) → is_digit b ≡ true → (48 ≤ b) × (b ≤ 57)
digit_parts b h =
    let p = and_parts (leb 48 b) (leb b 57) h in
    (leb-true 48 b p.0, leb-true b 57 p.1)

digits_are_visible : (ds : Text) → list_all is_digit ds ≡ true → list_all is_visible ds ≡ true
digits_are_visible [] h = refl
digits_are_visible (b ∷ ds) h =
    let p = and_parts (is_digit b) (list_all is_digit ds) h in
    let q = digit_parts b p.0 in
    both (is_visible b) (list_all is_visible ds) (visible_of_parts b (omega arith) (omega arith)) (digits_are_visible ds p.1)

digits_of : (n : ℕ) → n < 65536 → (1 ≤ length (decimal n)) × (length (decimal n) ≤ 5) × (list_all is_digit (decimal n) ≡ true)
digits_of n h =
    let small : n < 2 ^ 64 = omega arith in
    let p = and_parts (leb 1 (length (decimal n)) && list_all is_digit (decimal n)) _ (decimal_is_numeral n small) in
    let q = and_parts (leb 1 (length (decimal n))) (list_all is_digit (decimal n)) p.0 in
    (leb-true 1 (length (decimal n)) q.0, length-decimal-le 5 n (omega arith) (omega arith) small, q.1)

pub number_is_word : (n : ℕ) → n < 65536 → IsTrue (is_word (decimal n))
number_is_word n h =
    let d = digits_of n h in
    word_of_parts (decimal n) d.0 (omega arith) (digits_are_visible (decimal n) d.2)

pub numbered_is_word : (c n : ℕ) → is_visible c ≡ true → n < 65536 → IsTrue (is_word (c ∷ decimal n))
numbered_is_word c n seen h =
    let d = digits_of n h in
    word_of_parts (c ∷ decimal n) (omega arith) (omega arith) (both (is_visible c) (list_all is_visible (decimal n)) seen (digits_are_visible (decimal n) d.2))

or_right : (a b c d : Bool) → b ≡ true → (a || b || c || d) ≡ true
or_right true b c d e = refl
or_right false true c d e = refl
or_right false false c d e = absurd cc

digit_is_name_byte : (b : ℕ) → is_digit b ≡ true → is_name_byte b ≡ true
digit_is_name_byte b h = or_right (leb 97 b && leb b 122) (leb 48 b && leb b 57) (eqb b 95) (eqb b 45) h

digits_are_name_bytes : (ds : Text) → list_all is_digit ds ≡ true → list_all is_name_byte ds ≡ true
digits_are_name_bytes [] h = refl
digits_are_name_bytes (b ∷ ds) h =
    let p = and_parts (is_digit b) (list_all is_digit ds) h in
    both (is_name_byte b) (list_all is_name_byte ds) (digit_is_name_byte b p.0) (digits_are_name_bytes ds p.1)

-- a letter and a number are a name
pub name_is_named : (c n : ℕ) → is_name_byte c ≡ true → n < 65536 → IsTrue (is_name (c ∷ decimal n))
name_is_named c n letter h =
    let d = digits_of n h in
    both (leb 1 (length (c ∷ decimal n)) && leb (length (c ∷ decimal n)) 16) (list_all is_name_byte (c ∷ decimal n))
    (both (leb 1 (length (c ∷ decimal n))) (leb (length (c ∷ decimal n)) 16) (le-leb 1 (length (c ∷ decimal n)) (omega arith)) (le-leb (length (c ∷ decimal n)) 16 (omega arith)))
    (both (is_name_byte c) (list_all is_name_byte (decimal n)) letter (digits_are_name_bytes (decimal n) d.2))
