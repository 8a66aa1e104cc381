-- The loop over the lines.
use Rattle.std.proofs.Common.{◌≡◌, ◌≢◌, ℕ, ◌+◌, ◌-◌, ◌<◌, ◌≤◌, Bool, true, false, cond, ◌&&◌, eqb, zero, suc, List, [], ◌∷◌, ◌++◌, length, get_or, Option, Some, None, refl, sym, ap, subst, ◌∙◌, arith, append_assoc, length-append}
use Rattle.std.specs.Prelude.{is_some}
use Rattle.std.specs.List.{AllByRecursion, onto_first}
use Rattle.std.proofs.lemmas.Bool.{eq-eqb, eqb-true, and_parts}
use Rattle.std.proofs.lemmas.List.{append-nil, get_or-append_right, get_or_append_left, nil_from_length}
use Rattle.psos_calls.specs.Language.Script.{Script, IsWellFormed}
use Rattle.psos_check.specs.declared.stamped.Stamped.{Stamped}
use Rattle.psos_check.specs.Cuts.{cut_at}
use Rattle.psos_check.specs.Lines.{whole_lines}
use Rattle.psos_check.specs.UserLine.{IsUserLine}
use Rattle.psos_check.specs.DoneLine.{IsDoneLine}
use Rattle.psos_check.specs.Reading.{user_line_in, done_in}
use Rattle.psos_check.specs.Texts.{AreUserLines, AreRead, IsStray}
use Rattle.psos_check.proofs.CutLaws.{cut_takes, uncut_lacks, first_line, only_line}
use Rattle.psos_check.proofs.LineReading.{line_takes, line_again}
use Rattle.psos_check.proofs.LineReading as users
use Rattle.psos_check.proofs.DoneReading.{done_takes, done_again}
use Rattle.psos_check.proofs.DoneReading as dones

-- the lines up to here are user lines that say this
pub record HasSaid (s : Script) (text rest : List ℕ) (said : List Stamped) (number : ℕ) : Type 0 where
  pub before : List (List ℕ)
  pub cut : whole_lines text ≡ before ++ whole_lines rest
  pub each : AreUserLines s before said
  pub counted : number ≡ length before + 1
  pub room : number + length rest ≤ length text + 1

pub at_start : (s : Script) (text : List ℕ) (said : List Stamped) → said ≡ [] → HasSaid s text text said 1
at_start s text said e = record { before = []; cut = refl; each = subst (λ (said : List Stamped). AreUserLines s [] said) (sym e) tt; counted = refl; room = omega arith }

-- ---- user lines

one_behind : (s : Script) (lines : List (List ℕ)) (said : List Stamped) (line : List ℕ) (x : Stamped) → AreUserLines s lines said → IsUserLine s line x → AreUserLines s (lines ++ line ∷ []) (said ++ x ∷ [])
one_behind s [] [] line x h l = (l, tt)
one_behind s [] (y ∷ said) line x h l = absurd h
one_behind s (k ∷ lines) [] line x h l = absurd h
one_behind s (k ∷ lines) (y ∷ said) line x h l = (h.0, one_behind s lines said line x h.1 l)

pub each_at : (s : Script) (lines : List (List ℕ)) (said : List Stamped) (i : ℕ) → AreUserLines s lines said → i < length lines → (x : Stamped) × IsUserLine s (get_or lines i []) x
each_at s [] said i h lt = absurd (omega (arith, lt))
each_at s (k ∷ lines) [] i h lt = absurd h
each_at s (k ∷ lines) (y ∷ said) zero h lt = (y, h.0)
each_at s (k ∷ lines) (y ∷ said) (suc i) h lt = each_at s lines said i h.1 (omega (arith, lt))

-- ---- one line further

first_cut : (rest line after : List ℕ) → Some (line, after) ≡ cut_at 10 rest → AllByRecursion (λ b. b ≢ 10) line × (whole_lines rest ≡ (line ++ 10 ∷ []) ∷ whole_lines after)
first_cut rest line after e =
    let c = cut_takes 10 rest (line, after) (sym e) in
    (c.lacks, ap whole_lines c.parts ∙ first_line line after c.lacks)

line_before : (before : List (List ℕ)) (line : List ℕ) (text rest after : List ℕ) → whole_lines text ≡ before ++ whole_lines rest → whole_lines rest ≡ line ∷ whole_lines after → whole_lines text ≡ (before ++ line ∷ []) ++ whole_lines after
line_before before line text rest after e f = e ∙ ap (λ (ls : List (List ℕ)). before ++ ls) f ∙ sym (append_assoc before (line ∷ []) (whole_lines after))

pub one_line : (s : Script) (text rest line after : List ℕ) (said now : List Stamped) (x : Stamped) (number : ℕ) → Some (line, after) ≡ cut_at 10 rest → Some x ≡ user_line_in s line → now ≡ said ++ x ∷ [] → length after < length rest
    → HasSaid s text rest said number → HasSaid s text after now (number + 1)
one_line s text rest line after said now x number e u n shorter h =
    let c = first_cut rest line after e in
    let P : List Stamped → Type 0 = λ now. AreUserLines s (h.before ++ (line ++ 10 ∷ []) ∷ []) now in
    record {
      before = h.before ++ (line ++ 10 ∷ []) ∷ [];
      cut = line_before h.before (line ++ 10 ∷ []) text rest after h.cut c.1;
      each = subst P (sym n) (one_behind s h.before said (line ++ 10 ∷ []) x h.each (line_takes s line x c.0 (sym u)));
      counted = omega (arith, h.counted, length-append h.before ((line ++ 10 ∷ []) ∷ []));
      room = omega (arith, h.room, shorter);
    }

-- ---- the done line

some_is : {A : Type 0} (o : Option A) → is_some o ≡ true → (x : A) × (o ≡ Some x)
some_is None e = absurd cc
some_is (Some x) e = (x, refl)

no_some : {A : Type 0} (o : Option A) (x : A) → is_some o ≡ false → o ≡ Some x → ⊥
no_some None x e f = cc
no_some (Some y) x e f = cc

pub done_behind : (s : Script) (text rest line after : List ℕ) (said : List Stamped) (number : ℕ) → Some (line, after) ≡ cut_at 10 rest → (eqb (length after) 0 && is_some (done_in line)) ≡ true → HasSaid s text rest said number → AreRead s (whole_lines text) said
done_behind s text rest line after said number e d h =
    let c = first_cut rest line after e in
    let q = and_parts (eqb (length after) 0) (is_some (done_in line)) d in
    let none : after ≡ [] = nil_from_length after (eqb-true (length after) 0 q.0) in
    let it = some_is (done_in line) q.1 in
    record {
      users = h.before;
      done = line ++ 10 ∷ [];
      cut = line_before h.before (line ++ 10 ∷ []) text rest after h.cut c.1 ∙ ap (λ (t : List ℕ). (h.before ++ (line ++ 10 ∷ []) ∷ []) ++ whole_lines t) none ∙ append-nil (h.before ++ (line ++ 10 ∷ []) ∷ []);
      each = h.each;
      last = done_takes line it.0 it.1;
    }

-- ---- a line that is neither

-- text has lines where it has bytes
onto_some : (b : ℕ) (ls : List (List ℕ)) → 0 < length (onto_first b ls)
onto_some b [] = omega arith
onto_some b (l ∷ ls) = omega arith

lines_case : (b : ℕ) (bs : List ℕ) (t : Bool) → 0 < length (cond t ((10 ∷ []) ∷ whole_lines bs) (onto_first b (whole_lines bs)))
lines_case b bs true = omega arith
lines_case b bs false = onto_some b (whole_lines bs)

some_lines : (text : List ℕ) → 0 < length text → 0 < length (whole_lines text)
some_lines [] h = absurd (omega (arith, h))
some_lines (b ∷ bs) h = lines_case b bs (eqb b 10)

-- and has bytes where it has lines
no_lines : (text : List ℕ) → length (whole_lines text) ≡ 0 → length text ≡ 0
no_lines [] e = refl
no_lines (b ∷ bs) e = absurd (omega (arith, e, some_lines (b ∷ bs) (omega arith)))

-- line n stands behind user lines, and is neither
stray : (s : Script) (lines before : List (List ℕ)) (more : List (List ℕ)) (line : List ℕ) (said : List Stamped) (n : ℕ) → lines ≡ before ++ more → AreUserLines s before said → n ≡ length before + 1 → get_or more 0 [] ≡ line
    → ((x : Stamped) → IsUserLine s line x → ⊥) → (n ≡ length lines → IsDoneLine line → ⊥) → IsStray s lines n
stray s lines before more line said n e each counted first no_user not_done =
    let here : get_or lines (n - 1) [] ≡ line =
    ap (λ (i : ℕ). get_or lines i []) (let k : n - 1 ≡ length before = omega (arith, counted) in k) ∙ ap (λ (ls : List (List ℕ)). get_or ls (length before) []) e
    ∙ get_or-append_right before more (length before) (length before) [] refl (omega arith) ∙ ap (λ (i : ℕ). get_or more i []) (let k : length before - length before ≡ 0 = omega arith in k) ∙ first in
    record {
      from_one = omega (arith, counted);
      within = omega (arith, counted, ap length e, length-append before more);
      before = λ i lt. at i (omega (arith, lt, counted));
      no_user = λ x l. no_user x (subst (λ (t : List ℕ). IsUserLine s t x) here l);
      not_done = λ last d. not_done last (subst IsDoneLine here d);
    } where
      at : (i : ℕ) → i < length before → (x : Stamped) × IsUserLine s (get_or lines i []) x
      at i lt =
          let it = each_at s before said i each lt in
          let same : get_or before i [] ≡ get_or lines i [] = sym (ap (λ (ls : List (List ℕ)). get_or ls i []) e ∙ get_or_append_left before more [] i lt) in
          (it.0, subst (λ (t : List ℕ). IsUserLine s t it.0) same it.1)

-- a line that a line feed ends, and that is neither
pub stray_line : (s : Script) (text rest line after : List ℕ) (said : List Stamped) (number : ℕ) → IsWellFormed s → Some (line, after) ≡ cut_at 10 rest → None ≡ user_line_in s line → (eqb (length after) 0 && is_some (done_in line)) ≡ false
    → HasSaid s text rest said number → IsStray s (whole_lines text) number
stray_line s text rest line after said number w e u d h =
    let c = first_cut rest line after e in
    stray s (whole_lines text) h.before (whole_lines rest) (line ++ 10 ∷ []) said number h.cut h.each h.counted (ap (λ (ls : List (List ℕ)). get_or ls 0 []) c.1)
    (λ x l. cc (u, line_again s line x w l))
    (λ last k. not_last c.1 last k) where
      done_false : (t b : Bool) → t ≡ true → (t && b) ≡ false → b ≡ false
      done_false true b p q = q
      done_false false b p q = absurd cc

      not_last : whole_lines rest ≡ (line ++ 10 ∷ []) ∷ whole_lines after → number ≡ length (whole_lines text) → IsDoneLine (line ++ 10 ∷ []) → ⊥
      not_last c last k =
          let few : length (whole_lines after) ≡ 0 = omega (arith, last, h.counted, ap length h.cut, length-append h.before (whole_lines rest), ap length c) in
          let none : length after ≡ 0 = no_lines after few in
          no_some (done_in line) (k.requests, k.calls) (done_false (eqb (length after) 0) (is_some (done_in line)) (eq-eqb (length after) 0 none) d) (done_again line k)

-- the rest has no line feed
unended : (rest : List ℕ) → AllByRecursion (λ b. b ≢ 10) rest → get_or (whole_lines rest) 0 [] ≡ rest
unended [] h = refl
unended (b ∷ bs) h = ap (λ (ls : List (List ℕ)). get_or ls 0 []) (only_line (b ∷ bs) (omega arith) h)

pub stray_end : (s : Script) (text rest : List ℕ) (said : List Stamped) (number : ℕ) → None ≡ cut_at 10 rest → HasSaid s text rest said number → IsStray s (whole_lines text) number
stray_end s text rest said number e h =
    let lacks = uncut_lacks 10 rest (sym e) in
    stray s (whole_lines text) h.before (whole_lines rest) rest said number h.cut h.each h.counted (unended rest lacks) (λ x l. users.no_feed s rest x lacks l) (λ _ d. dones.no_feed rest lacks d)
