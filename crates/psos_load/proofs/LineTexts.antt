-- Texts of lines that are words, one space apart.
use Rattle.std.proofs.Common.{◌≡◌, ◌≤◌, true, false, eqb, leb, List, [], ◌∷◌, ◌++◌, length, IsTrue, refl, ap, sym, ◌∙◌, subst, arith, append_assoc, length-append}
use Rattle.std.specs.List.{list_all, onto_first, AllByRecursion}
use Rattle.std.proofs.lemmas.Bool.{and_parts, leb-true, ne_eqb}
use Rattle.psos_text.specs.Lines.{lines_of}
use Rattle.psos_model.specs.Text.Operands.{Text}
use Rattle.psos_model.specs.Text.Spelling.{is_skipped, kept, is_printable, is_line}
use Rattle.psos_load.proofs.Words.{AreWords, joined, words_of_joined, joined_is_printable, joined_is_short, joined_is_line}

-- a line with its end that has these words, which are not skipped
pub record IsLineOf (text : Text) (ws : List Text) : Type 0 where
  pub spelled : text ≡ joined ws ++ 10 ∷ []
  pub words : AreWords ws
  pub few : length ws ≤ 8
  pub first : is_skipped ws ≡ false

-- lines with these words
pub record AreLinesOf (text : Text) (wss : List (List Text)) : Type 0 where
  pub lines : AllByRecursion (λ line. IsTrue (is_line line)) (lines_of text)
  pub words : kept (lines_of text) ≡ wss

-- ---- a line is cut off

line_first : (line rest : Text) → list_all is_printable line ≡ true → lines_of (line ++ 10 ∷ rest) ≡ line ∷ lines_of rest
line_first [] rest h = refl
line_first (b ∷ line) rest h =
    let p = and_parts (is_printable b) (list_all is_printable line) h in
    let q = and_parts (leb 32 b) (leb b 126) p.0 in
    let low = leb-true 32 b q.0 in
    let other : eqb b 10 ≡ false = ne_eqb b 10 (λ e. omega arith) in
    rw other (ap (λ (ls : List Text). onto_first b ls) (line_first line rest p.1))

-- the lines of a text that begins with one
lines_more : (text rest : Text) (ws : List Text) → IsLineOf text ws → lines_of (text ++ rest) ≡ joined ws ∷ lines_of rest
lines_more text rest ws h =
    ap (λ (t : Text). lines_of (t ++ rest)) h.spelled
    ∙ ap lines_of (append_assoc (joined ws) (10 ∷ []) rest)
    ∙ line_first (joined ws) rest (joined_is_printable ws h.words)

kept_more : (ws : List Text) (ls : List Text) → AreWords ws → is_skipped ws ≡ false → kept (joined ws ∷ ls) ≡ ws ∷ kept ls
kept_more ws ls words first = rw (words_of_joined ws words, first) refl

pub no_lines : AreLinesOf [] []
no_lines = record { lines = tt; words = refl }

pub one_more_line : (text rest : Text) (ws : List Text) (wss : List (List Text)) → IsLineOf text ws → AreLinesOf rest wss → AreLinesOf (text ++ rest) (ws ∷ wss)
one_more_line text rest ws wss line more =
    let is = lines_more text rest ws line in
    let P : List Text → Type 0 = λ ls. AllByRecursion (λ l. IsTrue (is_line l)) ls in
    record {
      lines = subst P (sym is) (joined_is_line ws line.words line.few, more.lines);
      words = ap kept is ∙ kept_more ws (lines_of rest) line.words line.first ∙ ap (λ (all : List (List Text)). ws ∷ all) more.words;
    }

-- the same lines, told in another way
pub lines_along : {text other : Text} {wss others : List (List Text)} → text ≡ other → wss ≡ others → AreLinesOf text wss → AreLinesOf other others
lines_along {text} {other} {wss} {others} e f h =
    let P : Text → Type 0 = λ t. AreLinesOf t wss in
    let Q : List (List Text) → Type 0 = λ w. AreLinesOf other w in
    subst Q f (subst P e h)

-- a line is short
pub line_is_short : (text : Text) (ws : List Text) → IsLineOf text ws → length text ≤ 137
line_is_short text ws h =
    let short = joined_is_short ws h.words in
    let few = h.few in
    omega (arith, ap length h.spelled, length-append (joined ws) (10 ∷ []))
