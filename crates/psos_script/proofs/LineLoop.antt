-- The loop over the lines.
use Rattle.std.proofs.Common.{◌≡◌, ℕ, ◌+◌, ◌<◌, ◌≤◌, List, ◌∷◌, [], length, take, drop, Option, Some, None, refl, sym, ap, ◌∙◌, arith, length-drop}
use Rattle.std.specs.Prelude.{option_map}
use Rattle.std.specs.List.{position_or_len}
use Rattle.std.proofs.lemmas.List.{nil_from_length, drop_all, drop-drop}
use Rattle.psos_text.specs.Lines.{lines_of, words_of}
use Rattle.psos_text.proofs.ReadingSteps.{some_is}
use Rattle.psos_text.proofs.FirstPlaces.{is_byte}
use Rattle.psos_text.proofs.LineLaws.{line_first}
use Rattle.psos_script.specs.Fault.{at_line, line_cause, end_cause}
use Rattle.psos_script.specs.Draft.{Read, seen_in, fault_after, read_after, after_line, nothing_read, first_line}
use Rattle.psos_script.specs.declared.cause.Cause.{Cause}

-- what is read up to here, and what is left, say the same as all the bytes
pub record HasRead (bytes rest : List ℕ) (d : Read) (number : ℕ) : Type 0 where
  pub fault : fault_after number d (lines_of rest) ≡ fault_after 1 nothing_read (lines_of bytes)
  pub same : read_after d (lines_of rest) ≡ read_after nothing_read (lines_of bytes)
  pub counted : number + length rest ≤ 1 + length bytes

pub at_start : (bytes : List ℕ) (d : Read) → d ≡ nothing_read → HasRead bytes bytes d 1
at_start bytes d e = record { fault = rw e refl; same = rw e refl; counted = omega arith }

some_pair : (a b : List ℕ) (xs : List (List ℕ)) (ls : List (List ℕ)) → Some (a, xs) ≡ first_line ls → ls ≡ a ∷ xs
some_pair a b xs [] e = absurd cc
some_pair a b xs (l ∷ ls) e = ap (λ (p : List ℕ × List (List ℕ)). p.0 ∷ p.1) (sym (some_is (a, xs) (l, ls) e))

pub one_line : (bytes rest text after : List ℕ) (d now : Read) (number : ℕ) → Some (text, lines_of after) ≡ first_line (lines_of rest) → line_cause (seen_in d) text ≡ None → now ≡ after_line d (words_of text) → length after + 1 ≤ length rest
    → HasRead bytes rest d number → HasRead bytes after now (number + 1)
one_line bytes rest text after d now number e none is shorter h =
    let ls = some_pair text [] (lines_of after) (lines_of rest) e in
    record {
      fault = rw is (sym (ap (λ (ls : List (List ℕ)). fault_after number d ls) ls ∙ ap (λ (o : Option Cause). at_line number o (fault_after (number + 1) (after_line d (words_of text)) (lines_of after))) none) ∙ h.fault);
      same = rw is (sym (ap (λ (ls : List (List ℕ)). read_after d ls) ls) ∙ h.same);
      counted = omega (arith, h.counted);
    }

pub faulty_line : (bytes rest text after : List ℕ) (d : Read) (number : ℕ) (cause : Cause) → Some (text, lines_of after) ≡ first_line (lines_of rest) → line_cause (seen_in d) text ≡ Some cause
    → HasRead bytes rest d number → fault_after 1 nothing_read (lines_of bytes) ≡ Some (number, cause)
faulty_line bytes rest text after d number cause e some h =
    let ls = some_pair text [] (lines_of after) (lines_of rest) e in
    sym h.fault ∙ ap (λ (ls : List (List ℕ)). fault_after number d ls) ls ∙ ap (λ (o : Option Cause). at_line number o (fault_after (number + 1) (after_line d (words_of text)) (lines_of after))) some

no_line : (ls : List (List ℕ)) → (let o : Option (List ℕ × List (List ℕ)) = None in o) ≡ first_line ls → ls ≡ []
no_line [] e = refl
no_line (l ∷ ls) e = absurd cc

pub all_lines : (bytes rest : List ℕ) (d : Read) (number : ℕ) → None ≡ first_line (lines_of rest) → HasRead bytes rest d number
    → (fault_after 1 nothing_read (lines_of bytes) ≡ option_map (λ c. (number, c)) (end_cause (seen_in d))) × (d ≡ read_after nothing_read (lines_of bytes))
all_lines bytes rest d number e h =
    let none = no_line (lines_of rest) e in
    (sym h.fault ∙ ap (λ (ls : List (List ℕ)). fault_after number d ls) none, sym (ap (λ (ls : List (List ℕ)). read_after d ls) none) ∙ h.same)

-- ---- one line of text

pub last_line : (text front rest : List ℕ) (n : ℕ) → 0 < length text → n ≡ position_or_len (is_byte 10) text → front ≡ take n text → rest ≡ drop n text → length rest ≡ 0 → Some (front, lines_of rest) ≡ first_line (lines_of text)
last_line text front rest n some e f r z =
    let none : rest ≡ [] = nil_from_length rest z in
    let past : drop (1 + position_or_len (is_byte 10) text) text ≡ [] = drop_all (1 + position_or_len (is_byte 10) text) text (omega (arith, e, z, ap length r, length-drop n text)) in
    rw (f, none, e) (sym (ap first_line (line_first text some) ∙ ap (λ (t : List ℕ). Some (take (position_or_len (is_byte 10) text) text, lines_of t)) past))

pub ended_line : (text front rest after : List ℕ) (n : ℕ) → 0 < length text → n ≡ position_or_len (is_byte 10) text → front ≡ take n text → rest ≡ drop n text → after ≡ drop 1 rest → Some (front, lines_of after) ≡ first_line (lines_of text)
ended_line text front rest after n some e f r a =
    let is : after ≡ drop (1 + position_or_len (is_byte 10) text) text = a ∙ ap (λ (t : List ℕ). drop 1 t) r ∙ drop-drop 1 n text ∙ ap (λ (m : ℕ). drop m text) (omega (arith, e)) in
    rw (f, is, e) (sym (ap first_line (line_first text some)))
