-- The request lines that a seed makes.
use Rattle.std.proofs.Common.{◌≡◌, ℕ, zero, suc, ◌+◌, ◌*◌, ◌/◌, ◌%◌, ◌<◌, ◌≤◌, Bool, true, false, if◌then◌else◌, ltb, List, [], ◌∷◌, ◌++◌, length, decimal, IsTrue, refl, ap, sym, ◌∙◌, arith, append-nil, append_assoc, length-append}
use Rattle.std.specs.Prelude.{codes, ◌==◌}
use Rattle.std.specs.List.{list_all, AllByRecursion}
use Rattle.std.proofs.lemmas.Fmt.{decimal_digit}
use Rattle.psos_text.specs.Draws.{next_draw, draws}
use Rattle.psos_text.specs.Hex.{hex_digit, hex4}
use Rattle.psos_text.specs.Name.{is_name, name_text, name_of}
use Rattle.psos_text.proofs.NameLaws.{text-name_of, IsName-name_of}
use Rattle.psos_calls.specs.declared.request.Request.{Request}
use Rattle.psos_calls.specs.declared.request.Request.TheVariants.{Mint, Restrict, Set, Read, Write, Lookup, MkSeg, Delete}
use Rattle.psos_calls.specs.Language.Request.{InRange}
use Rattle.psos_model.specs.Text.Operands.{Text}
use Rattle.psos_model.specs.Text.RequestWords.{request_words}
use Rattle.psos_model.specs.Text.Spelling.{requests_lines}
use Rattle.psos_model.specs.Text.Load.{line_of, load_line, load_lines}
use Rattle.psos_load.specs.Made.{made_request, made_requests}
use Rattle.psos_load.proofs.Words.{is_visible, is_word, number_is_word, numbered_is_word, visible_of_parts, both, name_is_named}
use Rattle.psos_load.proofs.LineTexts.{IsLineOf, AreLinesOf, one_more_line, lines_along, line_is_short}

-- ---- one line

-- a text spells a request with its operands in range
record Made (text : Text) (request : Request) : Type 0 where
  line : IsLineOf text (request_words [] request)
  in_range : InRange 0 request

-- by a test, one of two
by_test : (t : Bool) {text other : Text} {request another : Request} → Made text request → Made other another → Made (if t then text else other) (if t then request else another)
by_test true a b = a
by_test false a b = b

mint : Made (line_of (codes "mint r4" ∷ [])) (Mint 4)
mint = record {
  line = record { spelled = refl; words = (refl, (refl, tt)); few = omega arith; first = refl };
  in_range = omega arith;
}

digit_of_either : (t : Bool) (d : ℕ) → d < 16 → is_visible (if t then 48 + d else 87 + d) ≡ true
digit_of_either true d h = visible_of_parts (48 + d) (omega arith) (omega arith)
digit_of_either false d h = visible_of_parts (87 + d) (omega arith) (omega arith)

hex_digit_is_visible : (d : ℕ) → d < 16 → is_visible (hex_digit d) ≡ true
hex_digit_is_visible d h = digit_of_either (ltb d 10) d h

hex4_is_word : (x : ℕ) → IsTrue (is_word (hex4 x))
hex4_is_word x =
    let a = hex_digit_is_visible (x / 4096 % 16) (omega arith) in
    let b = hex_digit_is_visible (x / 256 % 16) (omega arith) in
    let c = hex_digit_is_visible (x / 16 % 16) (omega arith) in
    let d = hex_digit_is_visible (x % 16) (omega arith) in
    both (is_visible (hex_digit (x / 4096 % 16))) (list_all is_visible (hex_digit (x / 256 % 16) ∷ hex_digit (x / 16 % 16) ∷ hex_digit (x % 16) ∷ [])) a
    (both (is_visible (hex_digit (x / 256 % 16))) (list_all is_visible (hex_digit (x / 16 % 16) ∷ hex_digit (x % 16) ∷ [])) b
    (both (is_visible (hex_digit (x / 16 % 16))) (list_all is_visible (hex_digit (x % 16) ∷ [])) c
    (both (is_visible (hex_digit (x % 16))) true d refl)))

restrict : (x : ℕ) → x < 65536 → Made (line_of (codes "restrict r5 r4 " ∷ hex4 x ∷ [])) (Restrict 5 4 (record { 0 = x }))
restrict x h = record {
  line = record { spelled = refl; words = (refl, (refl, (refl, (hex4_is_word x, tt)))); few = omega arith; first = refl };
  in_range = (omega arith, omega arith, omega arith);
}

set_to : (x : ℕ) → x < 65536 → Made (line_of (codes "set r6 " ∷ decimal x ∷ [])) (Set 6 x)
set_to x h = record {
  line = record { spelled = ap (λ (t : Text). codes "set r6 " ++ (t ++ 10 ∷ [])) (append-nil (decimal x)); words = (refl, (refl, (number_is_word x h, tt))); few = omega arith; first = refl };
  in_range = (omega arith, omega arith);
}

write : (w : ℕ) → w < 64 → Made (line_of (codes "write r3 " ∷ decimal w ∷ codes " r2" ∷ [])) (Write 3 w 2)
write w h = record {
  line = record { spelled = refl; words = (refl, (refl, (number_is_word w (omega arith), (refl, tt)))); few = omega arith; first = refl };
  in_range = (omega arith, omega arith, omega arith);
}

read : (w : ℕ) → w < 64 → Made (line_of (codes "read r7 r3 " ∷ decimal w ∷ [])) (Read 7 3 w)
read w h = record {
  line = record { spelled = ap (λ (t : Text). codes "read r7 r3 " ++ (t ++ 10 ∷ [])) (append-nil (decimal w)); words = (refl, (refl, (refl, (number_is_word w (omega arith), tt)))); few = omega arith; first = refl };
  in_range = (omega arith, omega arith, omega arith);
}

-- ---- names

abbrev name : ℕ → Text
name k = codes "n" ++ decimal k

named : (k : ℕ) → k < 20 → IsTrue (is_name (name k))
named k h = name_is_named 110 k refl (omega arith)

text_is_name : (k : ℕ) → k < 20 → name_text (name_of (name k)) ≡ name k
text_is_name k h = text-name_of (name k) (named k h)

text_is_word : (k : ℕ) → k < 20 → IsTrue (is_word (name_text (name_of (name k))))
text_is_word k h = ap is_word (text_is_name k h) ∙ numbered_is_word 110 k refl (omega arith)

-- a line that ends in the name
ends_in_name : (front : Text) (k : ℕ) → k < 20 → front ++ (110 ∷ (decimal k ++ []) ++ 10 ∷ []) ≡ front ++ (name_text (name_of (name k)) ++ 10 ∷ [])
ends_in_name front k h = ap (λ (t : Text). front ++ (t ++ 10 ∷ [])) (ap (λ (t : Text). 110 ∷ t) (append-nil (decimal k)) ∙ sym (text_is_name k h))

one : decimal 1 ≡ codes "1"
one = decimal_digit 1 (omega arith)

mkseg : (k : ℕ) → k < 20 → Made (line_of (codes "mkseg r8 r2 n" ∷ decimal k ∷ codes " 1 0" ∷ [])) (MkSeg 8 2 (name_of (name k)) 1 0)
mkseg k h = record {
  line = record {
    spelled =
        ap (λ (t : Text). codes "mkseg r8 r2 " ++ ((t ++ 32 ∷ (codes "1" ++ codes " 0")) ++ 10 ∷ [])) (sym (text_is_name k h))
        ∙ ap (λ (d : Text). codes "mkseg r8 r2 " ++ ((name_text (name_of (name k)) ++ 32 ∷ (d ++ codes " 0")) ++ 10 ∷ [])) (sym one);
    words = (refl, (refl, (refl, (text_is_word k h, (number_is_word 1 (omega arith), (refl, tt))))));
    few = omega arith;
    first = refl;
  };
  in_range = (omega arith, omega arith, IsName-name_of (name k) (named k h), omega arith, omega arith);
}

delete : (k : ℕ) → k < 20 → Made (line_of (codes "delete r2 n" ∷ decimal k ∷ [])) (Delete 2 (name_of (name k)))
delete k h = record {
  line = record { spelled = ends_in_name (codes "delete r2 ") k h; words = (refl, (refl, (text_is_word k h, tt))); few = omega arith; first = refl };
  in_range = (omega arith, IsName-name_of (name k) (named k h));
}

lookup : (k : ℕ) → k < 20 → Made (line_of (codes "lookup r9 r2 n" ∷ decimal k ∷ [])) (Lookup 9 2 (name_of (name k)))
lookup k h = record {
  line = record { spelled = ends_in_name (codes "lookup r9 r2 ") k h; words = (refl, (refl, (refl, (text_is_word k h, tt)))); few = omega arith; first = refl };
  in_range = (omega arith, omega arith, IsName-name_of (name k) (named k h));
}

made : (x w k : ℕ) → x < 65536 → w < 64 → k < 20 → Made (load_line x w k) (made_request x w k)
made x w k small word few =
    by_test (x % 8 == 0) mint (
    by_test (x % 8 == 1) (restrict x small) (
    by_test (x % 8 == 2) (set_to x small) (
    by_test (x % 8 == 3) (write w word) (
    by_test (x % 8 == 4) (read w word) (
    by_test (x % 8 == 5) (mkseg k few) (
    by_test (x % 8 == 6) (delete k few) (lookup k few)))))))

-- ---- so many lines

pub draw_is_small : (x : ℕ) → x < 65536 → next_draw x < 65536
draw_is_small x h = omega arith

pub draws_are_small : (n x : ℕ) → x < 65536 → draws n x < 65536
draws_are_small zero x h = h
draws_are_small (suc n) x h = draws_are_small n (next_draw x) (draw_is_small x h)

made_next : (x : ℕ) → x < 65536 → Made (load_line (next_draw x) (next_draw x / 8 % 64) (next_draw x / 8 % 20)) (made_request (next_draw x) (next_draw x / 8 % 64) (next_draw x / 8 % 20))
made_next x h = made (next_draw x) (next_draw x / 8 % 64) (next_draw x / 8 % 20) (draw_is_small x h) (omega arith) (omega arith)

pub requests_are_spelled : (n x : ℕ) (rest : Text) (wss : List (List Text)) → x < 65536 → AreLinesOf rest wss → AreLinesOf (load_lines n x ++ rest) (requests_lines [] (made_requests n x) ++ wss)
requests_are_spelled zero x rest wss h more = more
requests_are_spelled (suc n) x rest wss h more =
    let y = next_draw x in
    let line = load_line y (y / 8 % 64) (y / 8 % 20) in
    let request = made_request y (y / 8 % 64) (y / 8 % 20) in
    lines_along (sym (append_assoc line (load_lines n y) rest)) refl
    (one_more_line line (load_lines n y ++ rest) (request_words [] request) (requests_lines [] (made_requests n y) ++ wss)
    (made_next x h).line (requests_are_spelled n y rest wss (draw_is_small x h) more))

pub lines_are_short : (n x : ℕ) → x < 65536 → length (load_lines n x) ≤ 137 * n
lines_are_short zero x h = omega arith
lines_are_short (suc n) x h =
    let y = next_draw x in
    let line = load_line y (y / 8 % 64) (y / 8 % 20) in
    let request = made_request y (y / 8 % 64) (y / 8 % 20) in
    let first = line_is_short line (request_words [] request) (made_next x h).line in
    let rest = lines_are_short n y (draw_is_small x h) in
    omega (arith, length-append line (load_lines n y))

pub requests_are_in_range : (n x : ℕ) → x < 65536 → AllByRecursion (InRange 0) (made_requests n x)
requests_are_in_range zero x h = tt
requests_are_in_range (suc n) x h = ((made_next x h).in_range, requests_are_in_range n (next_draw x) (draw_is_small x h))

pub requests_are_so_many : (n x : ℕ) → length (made_requests n x) ≡ n
requests_are_so_many zero x = refl
requests_are_so_many (suc n) x = ap (λ m. suc m) (requests_are_so_many n (next_draw x))
