-- What is read of decimal digits is what is spelled, and what is spelled is read again.
use Rattle.std.proofs.Common.{◌≡◌, ◌≢◌, ℕ, ◌^◌, ◌<◌, ◌≤◌, Bool, true, false, ◌&&◌, ◌||◌, eqb, ltb, leb, not, List, [], ◌∷◌, length, get_or, slice_index, decimal, Some, None, Result, Ok, Err, inl, inr, refl, sym, ap, subst, ◌∙◌, arith, rules}
use Rattle.std.specs.List.{list_all, AllByRecursion}
use Rattle.std.specs.Str.{IsUtf8}
use Rattle.std.specs.Result.{result_ok}
use Rattle.std.proofs.lemmas.Str.{IsUtf8-from_ascii}
use Rattle.std.specs.Str.Parse.{digits_value, ParsesUnsigned}
use Rattle.std.proofs.lemmas.Bool.{and_parts, leb-true, ltb-true, le-leb, le-ltb, lt-ltb, eq-eqb, ne_eqb, cases_lt, true≢false}
use Rattle.std.proofs.lemmas.Fmt.{decimal-digits_value, digits_decimal, digits_value-decimal, first_decimal, decimal_digit, decimal_nonempty, IsAscii-from_digits}
use Rattle.std.proofs.lemmas.Str.Parse.{IsNumeralModel, numerals_by_value, parse_digits}
use Rattle.psos_text.specs.Number.{is_digit, is_numeral, number_of}
use Rattle.psos_text.proofs.ReadingSteps.{guard_some, none_some}

abbrev Digits : List ℕ → Type 0
Digits text = list_all is_digit text ≡ true

own : IsNumeralModel Digits (digits_value 10)
own = numerals_by_value Digits (search rules)

both : (a b : Bool) → a ≡ true → b ≡ true → (a && b) ≡ true
both true true e f = refl
both true false e f = f
both false b e f = e

one_side : (a b : Bool) → b ≡ true → (a || b) ≡ true
one_side true b e = refl
one_side false b e = e

not_false : (a : Bool) → a ≡ false → not a ≡ true
not_false true e = sym e
not_false false e = refl

either : (a b : Bool) → (a || not b) ≡ true → b ≡ true → a ≡ true
either true b e f = refl
either false true e f = e
either false false e f = f

-- the parts of the test of a numeral
record Parts (text : List ℕ) : Type 0 where
  some : 0 < length text
  digits : Digits text
  first : get_or text 0 0 ≡ 48 → length text ≡ 1

numeral_parts : (text : List ℕ) → is_numeral text ≡ true → Parts text
numeral_parts text h =
    let p = and_parts (leb 1 (length text) && list_all is_digit text) (leb (length text) 1 || not (eqb (slice_index text 0) 48)) h in
    let q = and_parts (leb 1 (length text)) (list_all is_digit text) p.0 in
    let some : 1 ≤ length text = leb-true 1 (length text) q.0 in
    record {
      some = omega arith;
      digits = q.1;
      first = λ z. (let short = leb-true (length text) 1 (either (leb (length text) 1) (eqb (slice_index text 0) 48) p.1 (eq-eqb (slice_index text 0) 48 z)) in omega arith);
    }

-- what is spelled is a numeral
first_digit : (n : ℕ) → n < 2 ^ 64 → (leb (length (decimal n)) 1 || not (eqb (slice_index (decimal n) 0) 48)) ≡ true
first_digit n h = elim (cases_lt 0 n) [
  | inl some ↦ one_side (leb (length (decimal n)) 1) (not (eqb (slice_index (decimal n) 0) 48)) (not_false _ (ne_eqb (slice_index (decimal n) 0) 48 (λ e. omega (arith, first_decimal n some h))))
  | inr none ↦ rw (decimal_digit n (omega arith)) refl
]

pub decimal_is_numeral : (n : ℕ) → n < 2 ^ 64 → is_numeral (decimal n) ≡ true
decimal_is_numeral n h =
    both (leb 1 (length (decimal n)) && list_all is_digit (decimal n)) _
    (both (leb 1 (length (decimal n))) (list_all is_digit (decimal n)) (le-leb 1 (length (decimal n)) (omega (arith, decimal_nonempty n h))) (digits_decimal own n h))
    (first_digit n h)

-- what is read is what is spelled
pub number_takes : (text : List ℕ) (n : ℕ) → number_of text ≡ Some n → (text ≡ decimal n) × (n < 2 ^ 64)
unfolding number_of
number_takes text n e =
    let g = guard_some (is_numeral text && ltb (digits_value 10 text) (2 ^ 64)) (digits_value 10 text) n e in
    let p = and_parts (is_numeral text) (ltb (digits_value 10 text) (2 ^ 64)) g.0 in
    let parts = numeral_parts text p.0 in
    let small : digits_value 10 text < 2 ^ 64 = ltb-true (digits_value 10 text) (2 ^ 64) p.1 in
    (sym (decimal-digits_value own text parts.digits parts.some parts.first small) ∙ ap (λ (m : ℕ). decimal m) g.1, (let P : ℕ → Type 0 = λ m. m < 2 ^ 64 in subst P g.1 small))

-- what is spelled is read again
pub number_again : (n : ℕ) → n < 2 ^ 64 → number_of (decimal n) ≡ Some n
unfolding number_of
number_again n h =
    rw (decimal_is_numeral n h, digits_value-decimal own n h, lt-ltb n (2 ^ 64) h) refl

-- what is not read is not spelled
pub number_none : (text : List ℕ) → number_of text ≡ None → (n : ℕ) → n < 2 ^ 64 → decimal n ≢ text
number_none text none n h e = none_some n (sym none ∙ ap number_of (sym e) ∙ number_again n h)

digit_lacks : (sep : ℕ) (text : List ℕ) → is_digit sep ≡ false → list_all is_digit text ≡ true → AllByRecursion (λ b. b ≢ sep) text
digit_lacks sep [] f h = tt
digit_lacks sep (b ∷ bs) f h =
    let p = and_parts (is_digit b) (list_all is_digit bs) h in
    (λ e. absurd (true≢false (sym p.0 ∙ ap is_digit e ∙ f)), digit_lacks sep bs f p.1)

-- no byte of the spelling is this one, where this one is no digit: 10, 32
pub number_lacks : (sep n : ℕ) → is_digit sep ≡ false → n < 2 ^ 64 → AllByRecursion (λ b. b ≢ sep) (decimal n)
number_lacks sep n f h = digit_lacks sep (decimal n) f (digits_decimal own n h)

-- ---- what the code reads

pub not_numeral : (text : List ℕ) → is_numeral text ≡ false → None ≡ number_of text
unfolding number_of
not_numeral text h = rw h refl

pub numeral_is_text : (text : List ℕ) → is_numeral text ≡ true → IsUtf8 text
numeral_is_text text h = IsUtf8-from_ascii text (IsAscii-from_digits text (own.to text (numeral_parts text h).digits))

pub parsed : {E : Type 0} (text : List ℕ) (r : Result ℕ E) → is_numeral text ≡ true → ParsesUnsigned 64 10 text r → result_ok r ≡ number_of text
unfolding number_of
parsed {E = E} text (Ok n) h p =
    let parts = numeral_parts text h in
    let q = parse_digits own {E = E} 64 text (Ok n) p parts.digits in
    rw (h, lt-ltb (digits_value 10 text) (2 ^ 64) q.0.1) (ap (λ (m : ℕ). Some m) q.1)
parsed {E = E} text (Err e) h p =
    let parts = numeral_parts text h in
    let q = parse_digits own {E = E} 64 text (Err e) p parts.digits in
    let large : 2 ^ 64 ≤ digits_value 10 text = elim (cases_lt (digits_value 10 text) (2 ^ 64)) [ inl small ↦ absurd (q (parts.some, small)) | inr large ↦ large ] in
    rw (h, le-ltb (digits_value 10 text) (2 ^ 64) large) refl
