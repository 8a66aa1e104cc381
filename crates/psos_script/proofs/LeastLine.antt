-- The first fault stands on the least faulty line.
use Rattle.std.proofs.Common.{◌≡◌, ◌↔◌, ℕ, ◌+◌, ◌-◌, ◌<◌, ◌≤◌, Bool, true, false, not, cond, ltb, zero, suc, List, [], ◌∷◌, ◌++◌, length, get_or, take, reverse, Option, Some, None, refl, sym, ap, subst, ◌∙◌, arith, append_assoc}
use Rattle.std.specs.Prelude.{option_map}
use Rattle.std.proofs.lemmas.Bool.{le-ltb, lt-ltb}
use Rattle.std.proofs.lemmas.List.{append-nil, reverse-append}
use Rattle.psos_text.specs.Lines.{lines_of, words_of}
use Rattle.psos_model.specs.Text.Operands.{Text}
use Rattle.psos_model.specs.Text.Spelling.{is_skipped, kept}
use Rattle.psos_script.specs.Fault.{seen, line_cause, end_cause, with_line, at_line, fault_from, fault_of}
use Rattle.psos_script.specs.LeastFault.{cause_at, IsLeastFault}
use Rattle.psos_script.specs.declared.cause.Cause.{Cause}

-- the cause on the line behind the first i lines, which stand behind others
abbrev behind : List (List Text) → List (List ℕ) → ℕ → Option Cause
behind past lines i = cond (ltb i (length lines)) (line_cause (seen (reverse (kept (take i lines)) ++ past)) (get_or lines i [])) (end_cause (seen (reverse (kept (take i lines)) ++ past)))

turned : (w : List Text) (ws past : List (List Text)) → reverse (w ∷ ws) ++ past ≡ reverse ws ++ w ∷ past
turned w ws past = ap (λ (x : List (List Text)). x ++ past) (reverse-append (w ∷ []) ws) ∙ append_assoc (reverse ws) (w ∷ []) past

kept_case : (t : Bool) (w : List Text) (ws past : List (List Text)) → reverse (cond (not t) (w ∷ ws) ws) ++ past ≡ reverse ws ++ cond t past (w ∷ past)
kept_case true w ws past = refl
kept_case false w ws past = turned w ws past

less : (i n : ℕ) → ltb (suc i) (suc n) ≡ ltb i n
less i n = grind arith

-- one line further
further : (past : List (List Text)) (line : List ℕ) (lines : List (List ℕ)) (i : ℕ) → behind past (line ∷ lines) (suc i) ≡ behind (with_line (words_of line) past) lines i
further past line lines i =
    let k = kept_case (is_skipped (words_of line)) (words_of line) (kept (take i lines)) past in
    rw (less i (length lines), k) refl

-- at the first line
nearest : (past : List (List Text)) (line : List ℕ) (lines : List (List ℕ)) → behind past (line ∷ lines) 0 ≡ line_cause (seen past) line
nearest past line lines = rw (lt-ltb 0 (length (line ∷ lines)) (omega arith)) refl

-- this place has the first cause
record IsAt (past : List (List Text)) (lines : List (List ℕ)) (k : ℕ) (c : Cause) : Type 0 where
  within : k ≤ length lines
  here : behind past lines k ≡ Some c
  none : (i : ℕ) → i < k → behind past lines i ≡ None

-- ---- from the fault to its place

pair_is : (x y : ℕ × Cause) → (let o : Option (ℕ × Cause) = Some x in o) ≡ Some y → x ≡ y
pair_is x y e = cc

at_end : (m n : ℕ) (c : Cause) (o : Option Cause) → option_map (λ (c : Cause). (let p : ℕ × Cause = (m, c) in p)) o ≡ Some (n, c) → (n ≡ m + 0) × (o ≡ Some c)
at_end m n c None e = absurd cc
at_end m n c (Some d) e =
    let P : ℕ × Cause → Type 0 = λ p. (p.0 ≡ m + 0) × ((let o : Option Cause = Some d in o) ≡ Some p.1) in
    subst P (pair_is (m, d) (n, c) e) (omega arith, refl)

one_further : (past : List (List Text)) (line : List ℕ) (lines : List (List ℕ)) (k : ℕ) (c : Cause) → line_cause (seen past) line ≡ None → IsAt (with_line (words_of line) past) lines k c → IsAt past (line ∷ lines) (suc k) c
one_further past line lines k c e h = record {
  within = omega (arith, h.within);
  here = further past line lines k ∙ h.here;
  none = λ i lt. before i lt;
} where
  before : (i : ℕ) → i < suc k → behind past (line ∷ lines) i ≡ None
  before zero lt = nearest past line lines ∙ e
  before (suc i) lt = further past line lines i ∙ h.none i (omega (arith, lt))

line_place : (m : ℕ) (past : List (List Text)) (line : List ℕ) (lines : List (List ℕ)) (n : ℕ) (c : Cause) (o : Option Cause) → line_cause (seen past) line ≡ o
    → at_line m o (fault_from (m + 1) (with_line (words_of line) past) lines) ≡ Some (n, c)
    → (fault_from (m + 1) (with_line (words_of line) past) lines ≡ Some (n, c) → (k : ℕ) × (n ≡ m + 1 + k) × IsAt (with_line (words_of line) past) lines k c)
    → (k : ℕ) × (n ≡ m + k) × IsAt past (line ∷ lines) k c
line_place m past line lines n c (Some d) l e later =
    let P : ℕ × Cause → Type 0 = λ p. (k : ℕ) × (p.0 ≡ m + k) × IsAt past (line ∷ lines) k p.1 in
    subst P (pair_is (m, d) (n, c) e) (0, omega arith, record { within = omega arith; here = nearest past line lines ∙ l; none = λ i lt. absurd (omega (arith, lt)) })
line_place m past line lines n c None l e later =
    let p = later e in
    (suc p.0, omega (arith, p.1), one_further past line lines p.0 c l p.2)

place_of : (m : ℕ) (past : List (List Text)) (lines : List (List ℕ)) (n : ℕ) (c : Cause) → fault_from m past lines ≡ Some (n, c) → (k : ℕ) × (n ≡ m + k) × IsAt past lines k c
unfolding fault_from
place_of m past [] n c e =
    let p = at_end m n c (end_cause (seen past)) e in
    (0, p.0, record { within = omega arith; here = p.1; none = λ i lt. absurd (omega (arith, lt)) })
place_of m past (line ∷ lines) n c e =
    line_place m past line lines n c (line_cause (seen past) line) refl e (λ f. place_of (m + 1) (with_line (words_of line) past) lines n c f)

-- ---- from the place to the fault

fault_at : (m : ℕ) (past : List (List Text)) (lines : List (List ℕ)) (k : ℕ) (c : Cause) → IsAt past lines k c → fault_from m past lines ≡ Some (m + k, c)
unfolding fault_from
fault_at m past [] zero c h = ap (λ (o : Option Cause). option_map (λ (c : Cause). (let p : ℕ × Cause = (m, c) in p)) o) h.here ∙ ap (λ (n : ℕ). let o : Option (ℕ × Cause) = Some (n, c) in o) (let e : m ≡ m + 0 = omega arith in e)
fault_at m past [] (suc k) c h = absurd (omega (arith, h.within))
fault_at m past (line ∷ lines) zero c h =
    ap (λ (o : Option Cause). at_line m o (fault_from (m + 1) (with_line (words_of line) past) lines)) (sym (nearest past line lines) ∙ h.here) ∙ ap (λ (n : ℕ). let o : Option (ℕ × Cause) = Some (n, c) in o) (let e : m ≡ m + 0 = omega arith in e)
fault_at m past (line ∷ lines) (suc k) c h =
    let first : line_cause (seen past) line ≡ None = sym (nearest past line lines) ∙ h.none 0 (omega arith) in
    let later : IsAt (with_line (words_of line) past) lines k c = record {
      within = omega (arith, h.within);
      here = sym (further past line lines k) ∙ h.here;
      none = λ i lt. sym (further past line lines i) ∙ h.none (suc i) (omega (arith, lt));
    } in
    ap (λ (o : Option Cause). at_line m o (fault_from (m + 1) (with_line (words_of line) past) lines)) first ∙ fault_at (m + 1) (with_line (words_of line) past) lines k c later
    ∙ ap (λ (n : ℕ). let o : Option (ℕ × Cause) = Some (n, c) in o) (let e : m + 1 + k ≡ m + suc k = omega arith in e)

-- ---- for all the bytes

from_front : (lines : List (List ℕ)) (i : ℕ) → behind [] lines i ≡ cause_at lines i
from_front lines i = rw (append-nil (reverse (kept (take i lines)))) refl

few : (bytes : List ℕ) → length bytes ≤ 1048576 → fault_of bytes ≡ fault_from 1 [] (lines_of bytes)
unfolding fault_of
few bytes h = rw (le-ltb 1048576 (length bytes) h) refl

pub least_fault : (bytes : List ℕ) (n : ℕ) (c : Cause) → length bytes ≤ 1048576 → (fault_of bytes ≡ Some (n, c)) ↔ IsLeastFault (lines_of bytes) n c
least_fault bytes n c short = (λ e. to (place_of 1 [] (lines_of bytes) n c (sym (few bytes short) ∙ e)), λ h. few bytes short ∙ back h) where
  to : (k : ℕ) × (n ≡ 1 + k) × IsAt [] (lines_of bytes) k c → IsLeastFault (lines_of bytes) n c
  to p = record {
    from_one = omega (arith, p.1);
    within = omega (arith, p.1, p.2.within);
    here = ap (λ (i : ℕ). cause_at (lines_of bytes) i) (let e : n - 1 ≡ p.0 = omega (arith, p.1) in e) ∙ sym (from_front (lines_of bytes) p.0) ∙ p.2.here;
    none = λ i lt. sym (from_front (lines_of bytes) i) ∙ p.2.none i (omega (arith, lt, p.1));
  }

  back : IsLeastFault (lines_of bytes) n c → fault_from 1 [] (lines_of bytes) ≡ Some (n, c)
  back h =
      let place : IsAt [] (lines_of bytes) (n - 1) c = record {
        within = omega (arith, h.within);
        here = from_front (lines_of bytes) (n - 1) ∙ h.here;
        none = λ i lt. from_front (lines_of bytes) i ∙ h.none i (omega (arith, lt));
      } in
      fault_at 1 [] (lines_of bytes) (n - 1) c place ∙ ap (λ (m : ℕ). let o : Option (ℕ × Cause) = Some (m, c) in o) (let e : 1 + (n - 1) ≡ n = omega (arith, h.from_one) in e)
