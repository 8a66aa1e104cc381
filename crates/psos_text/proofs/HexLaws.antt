-- What is read of four hexadecimal digits is what is spelled, and what is spelled is read again.
use Rattle.std.proofs.Common.{◌≡◌, ◌≢◌, ℕ, ◌+◌, ◌-◌, ◌*◌, ◌/◌, ◌%◌, ◌^◌, ◌<◌, ◌≤◌, true, false, cond, ◌&&◌, ltb, leb, List, [], ◌∷◌, Some, None, inl, inr, refl, sym, ap, ◌∙◌, arith}
use Rattle.std.specs.List.{AllByRecursion}
use Rattle.std.proofs.lemmas.Bool.{and_parts, leb-true, lt-ltb, le-ltb, le-leb, lt-leb, cond-true, cond-false, cases_lt}
use Rattle.psos_text.specs.Hex.{hex_digit, hex4, digit_of, hex_of}
use Rattle.psos_text.proofs.ReadingSteps.{bind_some, chosen, guard_some, some_is, none_some}

-- what is read of a digit is what is spelled
pub digit_takes : (c d : ℕ) → digit_of c ≡ Some d → (c ≡ hex_digit d) × (d < 16)
unfolding digit_of
digit_takes c d e =
    elim (chosen (leb 48 c && leb c 57) (Some (c - 48)) (cond (leb 97 c && leb c 102) (Some (c - 87)) None) (Some d) e) [
      | inl decimal ↦
          let p = and_parts (leb 48 c) (leb c 57) decimal.0 in
          let low : 48 ≤ c = leb-true 48 c p.0 in
          let high : c ≤ 57 = leb-true c 57 p.1 in
          let same : c - 48 ≡ d = some_is (c - 48) d decimal.1 in
          let small : ltb d 10 ≡ true = lt-ltb d 10 (omega arith) in
          (rw (cond-true (ltb d 10) (48 + d) (87 + d) small) (omega arith), omega arith)
      | inr letter ↦
          let g = guard_some (leb 97 c && leb c 102) (c - 87) d letter.1 in
          let p = and_parts (leb 97 c) (leb c 102) g.0 in
          let low : 97 ≤ c = leb-true 97 c p.0 in
          let high : c ≤ 102 = leb-true c 102 p.1 in
          let same : c - 87 ≡ d = g.1 in
          let large : ltb d 10 ≡ false = le-ltb d 10 (omega arith) in
          (rw (cond-false (ltb d 10) (48 + d) (87 + d) large) (omega arith), omega arith)
    ]

-- a spelled digit is read again
pub digit_again : (d : ℕ) → d < 16 → digit_of (hex_digit d) ≡ Some d
unfolding digit_of
digit_again d h =
    elim (cases_lt d 10) [
      | inl small ↦ rw (cond-true (ltb d 10) (48 + d) (87 + d) (lt-ltb d 10 small), le-leb 48 (48 + d) (omega arith), le-leb (48 + d) 57 (omega arith)) (ap (λ (x : ℕ). Some x) (omega arith))
      | inr large ↦ rw (cond-false (ltb d 10) (48 + d) (87 + d) (le-ltb d 10 large), le-leb 48 (87 + d) (omega arith), lt-leb (87 + d) 57 (omega arith), le-leb 97 (87 + d) (omega arith), le-leb (87 + d) 102 (omega arith)) (ap (λ (x : ℕ). Some x) (omega arith))
    ]

-- four digits and the number that they make
hex_parts : (a b c d v w x y n : ℕ) → (a ≡ hex_digit v) × (v < 16) → (b ≡ hex_digit w) × (w < 16) → (c ≡ hex_digit x) × (x < 16) → (d ≡ hex_digit y) × (y < 16)
    → ((v * 16 + w) * 16 + x) * 16 + y ≡ n → (a ∷ b ∷ c ∷ d ∷ [] ≡ hex4 n) × (n < 2 ^ 16)
hex_parts a b c d v w x y n va wb xc yd whole =
    let first : v ≡ n / 4096 % 16 = omega arith in
    let second : w ≡ n / 256 % 16 = omega arith in
    let third : x ≡ n / 16 % 16 = omega arith in
    let fourth : y ≡ n % 16 = omega arith in
    (rw (va.0, wb.0, xc.0, yd.0, first, second, third, fourth) refl, omega arith)

-- what is read of four digits is what is spelled
pub hex_takes : (text : List ℕ) (n : ℕ) → hex_of text ≡ Some n → (text ≡ hex4 n) × (n < 2 ^ 16)
unfolding hex_of
hex_takes [] n e = absurd cc
hex_takes (a ∷ []) n e = absurd cc
hex_takes (a ∷ b ∷ []) n e = absurd cc
hex_takes (a ∷ b ∷ c ∷ []) n e = absurd cc
hex_takes (a ∷ b ∷ c ∷ d ∷ []) n e =
    let p = bind_some (digit_of a) _ n e in
    let q = bind_some (digit_of b) _ n p.2 in
    let r = bind_some (digit_of c) _ n q.2 in
    let s = bind_some (digit_of d) _ n r.2 in
    hex_parts a b c d p.0 q.0 r.0 s.0 n (digit_takes a p.0 p.1) (digit_takes b q.0 q.1) (digit_takes c r.0 r.1) (digit_takes d s.0 s.1) (some_is _ n s.2)
hex_takes (a ∷ b ∷ c ∷ d ∷ f ∷ more) n e = absurd cc

-- what is spelled is read again
pub hex_again : (n : ℕ) → n < 2 ^ 16 → hex_of (hex4 n) ≡ Some n
unfolding hex_of
hex_again n h =
    rw (digit_again (n / 4096 % 16) (omega arith), digit_again (n / 256 % 16) (omega arith), digit_again (n / 16 % 16) (omega arith), digit_again (n % 16) (omega arith)) (ap (λ (x : ℕ). Some x) (omega arith))

-- what is not read is not spelled
pub hex_none : (text : List ℕ) → hex_of text ≡ None → (n : ℕ) → n < 2 ^ 16 → hex4 n ≢ text
hex_none text none n h e = none_some n (sym none ∙ ap hex_of (sym e) ∙ hex_again n h)

-- two numbers with one spelling are one
pub hex_injective : (m n : ℕ) → m < 2 ^ 16 → n < 2 ^ 16 → hex4 m ≡ hex4 n → m ≡ n
hex_injective m n h k e = some_is m n (sym (hex_again m h) ∙ ap hex_of e ∙ hex_again n k)

digit_lacks : (sep d : ℕ) → sep < 48 → d < 16 → hex_digit d ≢ sep
digit_lacks sep d s h e = elim (cases_lt d 10) [
  | inl small ↦ omega (arith, sym e ∙ cond-true (ltb d 10) (48 + d) (87 + d) (lt-ltb d 10 small))
  | inr large ↦ omega (arith, sym e ∙ cond-false (ltb d 10) (48 + d) (87 + d) (le-ltb d 10 large))
]

-- no byte of the spelling is this one, where this one is below every digit: 10, 32
pub hex_lacks : (sep n : ℕ) → sep < 48 → AllByRecursion (λ b. b ≢ sep) (hex4 n)
hex_lacks sep n s = (digit_lacks sep (n / 4096 % 16) s (omega arith), (digit_lacks sep (n / 256 % 16) s (omega arith), (digit_lacks sep (n / 16 % 16) s (omega arith), (digit_lacks sep (n % 16) s (omega arith), tt))))
