-- What is read of an operand is what is spelled, and what is spelled is read again.
use Rattle.std.proofs.Common.{◌≡◌, ℕ, ◌+◌, ◌-◌, ◌<◌, ◌≤◌, ◌^◌, true, false, ◌&&◌, cond, eqb, ltb, leb, List, [], ◌∷◌, Some, None, inl, inr, refl, sym, ap, subst, ◌∙◌, arith}
use Rattle.std.specs.Prelude.{IsTrue}
use Rattle.std.proofs.lemmas.Bool.{and_parts, eqb-true, leb-true, lt-ltb, le-ltb, le-leb, cond-true, cond-false, cases_lt}
use Rattle.psos_text.specs.declared.name.Name.{Name as NameValue}
use Rattle.psos_text.specs.Name.{is_name, name_text, name_of, IsName}
use Rattle.psos_text.proofs.ReadingSteps.{guard_some}
use Rattle.psos_text.proofs.NameLaws.{text-name_of, IsName-name_of, name_of-text}
use Rattle.psos_text.proofs.NumberLaws.{number_takes, number_again}
use Rattle.psos_text.proofs.HexLaws.{hex_takes, hex_again}
use Rattle.psos_model.specs.Text.Operands.{Text, register_text, guard_text}
use Rattle.psos_script.specs.Operands.{register_of, guard_of}
use Rattle.psos_script.specs.Values.{Value, value_of, value_word}
use Rattle.psos_script.specs.declared.class.Class.{Class}
use Rattle.psos_script.specs.declared.class.Class.TheVariants.{Register, Number, Hex, Name, Label, Guard}

-- ---- registers and guards

pub register_takes : (text : List ℕ) (r : ℕ) → register_of text ≡ Some r → (text ≡ register_text r) × (r < 16)
unfolding register_of
register_takes [] r e = absurd cc
register_takes (a ∷ []) r e = absurd cc
register_takes (a ∷ d ∷ []) r e =
    let g = guard_some ((eqb a 114) && leb 48 d && leb d 57) (d - 48) r e in
    let p = and_parts (eqb a 114 && leb 48 d) (leb d 57) g.0 in
    let q = and_parts (eqb a 114) (leb 48 d) p.0 in
    let first : a ≡ 114 = eqb-true a 114 q.0 in
    let low : 48 ≤ d = leb-true 48 d q.1 in
    let high : d ≤ 57 = leb-true d 57 p.1 in
    let is : d ≡ 48 + r = omega arith in
    let small : ltb r 10 ≡ true = lt-ltb r 10 (omega arith) in
    (ap (λ (x : ℕ). x ∷ d ∷ []) first ∙ ap (λ (x : ℕ). 114 ∷ x ∷ []) is ∙ sym (cond-true (ltb r 10) _ _ small), omega arith)
register_takes (a ∷ t ∷ d ∷ []) r e =
    let g = guard_some ((eqb a 114) && (eqb t 49) && leb 48 d && leb d 53) (d - 38) r e in
    let p = and_parts (eqb a 114 && eqb t 49 && leb 48 d) (leb d 53) g.0 in
    let q = and_parts (eqb a 114 && eqb t 49) (leb 48 d) p.0 in
    let s = and_parts (eqb a 114) (eqb t 49) q.0 in
    let first : a ≡ 114 = eqb-true a 114 s.0 in
    let second : t ≡ 49 = eqb-true t 49 s.1 in
    let low : 48 ≤ d = leb-true 48 d q.1 in
    let high : d ≤ 53 = leb-true d 53 p.1 in
    let is : d ≡ 38 + r = omega arith in
    let large : ltb r 10 ≡ false = le-ltb r 10 (omega arith) in
    (ap (λ (x : ℕ). x ∷ t ∷ d ∷ []) first ∙ ap (λ (x : ℕ). 114 ∷ x ∷ d ∷ []) second ∙ ap (λ (x : ℕ). 114 ∷ 49 ∷ x ∷ []) is ∙ sym (cond-false (ltb r 10) _ _ large), omega arith)
register_takes (a ∷ t ∷ d ∷ f ∷ more) r e = absurd cc

one_digit : (r : ℕ) → r < 10 → register_of (114 ∷ (48 + r) ∷ []) ≡ Some r
unfolding register_of
one_digit r h = rw (le-leb 48 (48 + r) (omega arith), le-leb (48 + r) 57 (omega arith)) (ap (λ (x : ℕ). Some x) (omega arith))

two_digits : (r : ℕ) → 10 ≤ r → r < 16 → register_of (114 ∷ 49 ∷ (38 + r) ∷ []) ≡ Some r
unfolding register_of
two_digits r l h = rw (le-leb 48 (38 + r) (omega arith), le-leb (38 + r) 53 (omega arith)) (ap (λ (x : ℕ). Some x) (omega arith))

pub register_again : (r : ℕ) → r < 16 → register_of (register_text r) ≡ Some r
register_again r h =
    elim (cases_lt r 10) [
      | inl small ↦ rw (cond-true (ltb r 10) (114 ∷ (48 + r) ∷ []) (114 ∷ 49 ∷ (38 + r) ∷ []) (lt-ltb r 10 small)) (one_digit r small)
      | inr large ↦ rw (cond-false (ltb r 10) (114 ∷ (48 + r) ∷ []) (114 ∷ 49 ∷ (38 + r) ∷ []) (le-ltb r 10 large)) (two_digits r large h)
    ]

pub guard_takes : (w : Text) (g : ℕ) → guard_of w ≡ Some g → (w ≡ guard_text g) × (g < 8)
unfolding guard_of
guard_takes [] g e = absurd cc
guard_takes (d ∷ e' ∷ more) g e = absurd cc
guard_takes (d ∷ []) g e =
    let t = guard_some (leb 48 d && leb d 55) (d - 48) g e in
    let p = and_parts (leb 48 d) (leb d 55) t.0 in
    let low : 48 ≤ d = leb-true 48 d p.0 in
    let high : d ≤ 55 = leb-true d 55 p.1 in
    let same : d - 48 ≡ g = t.1 in
    let is : d ≡ 48 + g = omega arith in
    (ap (λ (x : ℕ). x ∷ []) is, omega arith)

pub guard_again : (g : ℕ) → g < 8 → guard_of (guard_text g) ≡ Some g
unfolding guard_of
guard_again g h = rw (le-leb 48 (48 + g) (omega arith), le-leb (48 + g) 55 (omega arith)) (ap (λ (x : ℕ). Some x) (omega arith))

-- ---- the six classes

-- what may be a value of the class
abbrev pub IsValue : (c : Class) → Value c → Type 0
IsValue Register r = r < 16
IsValue Number n = n < 2 ^ 64
IsValue Hex h = h < 2 ^ 16
IsValue Name n = IsName n
IsValue Label l = IsTrue (is_name l)
IsValue Guard g = g < 8

name_takes : (w : Text) (n : NameValue) → (is_name w ≡ true) × (name_of w ≡ n) → (w ≡ name_text n) × IsName n
name_takes w n h =
    let P : NameValue → Type 0 = λ x. (w ≡ name_text x) × IsName x in
    subst P h.1 (sym (text-name_of w h.0), IsName-name_of w h.0)

label_takes : (w l : Text) → (is_name w ≡ true) × (w ≡ l) → (w ≡ l) × IsTrue (is_name l)
label_takes w l h = let P : Text → Type 0 = λ x. (w ≡ x) × IsTrue (is_name x) in subst P h.1 (refl, h.0)

-- what is read of a word is spelled so, and may be such a value
pub value_takes : (c : Class) (w : Text) (v : Value c) → value_of c w ≡ Some v → (w ≡ value_word c v) × IsValue c v
unfolding value_of
value_takes Register w v e = register_takes w v e
value_takes Number w v e = number_takes w v e
value_takes Hex w v e = hex_takes w v e
value_takes Name w v e = name_takes w v (guard_some (is_name w) (name_of w) v e)
value_takes Label w v e = label_takes w v (guard_some (is_name w) w v e)
value_takes Guard w v e = guard_takes w v e

name_again : (n : NameValue) → IsName n → cond (is_name (name_text n)) (Some (name_of (name_text n))) None ≡ Some n
name_again n h = cond-true (is_name (name_text n)) (Some (name_of (name_text n))) None h.named ∙ ap (λ (x : NameValue). Some x) (name_of-text n h)

-- what may be such a value is read again
pub value_again : (c : Class) (v : Value c) → IsValue c v → value_of c (value_word c v) ≡ Some v
unfolding value_of
value_again Register v h = register_again v h
value_again Number v h = number_again v h
value_again Hex v h = hex_again v h
value_again Name v h = name_again v h
value_again Label v h = cond-true (is_name v) (Some v) None h
value_again Guard v h = guard_again v h
