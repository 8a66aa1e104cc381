-- A text is one thing only.
use Rattle.std.proofs.Common.{◌≡◌, ℕ, ◌+◌, ◌-◌, ◌<◌, List, [], ◌∷◌, ◌++◌, length, get_or, decimal, inl, inr, refl, sym, ap, subst, ◌∙◌, arith, length-append}
use Rattle.std.proofs.lemmas.Bool.{cases_lt}
use Rattle.std.proofs.lemmas.List.{get_or_append_left}
use Rattle.std.proofs.Math.Seq.{get_or-append_seam}
use Rattle.psos_calls.specs.Language.Script.{Script, IsWellFormed}
use Rattle.psos_check.specs.declared.stamped.Stamped.{Stamped}
use Rattle.psos_check.specs.declared.text.Text.{Text}
use Rattle.psos_check.specs.declared.text.Text.TheVariants.{TooLong, Line, Read}
use Rattle.psos_check.specs.Lines.{whole_lines}
use Rattle.psos_check.specs.UserLine.{IsUserLine}
use Rattle.psos_check.specs.DoneLine.{IsDoneLine}
use Rattle.psos_check.specs.Texts.{AreUserLines, AreRead, IsStray, IsText}
use Rattle.psos_check.specs.Laws.{SaySame}
use Rattle.psos_check.proofs.LineReading.{one_said, no_user_line}
use Rattle.psos_check.proofs.DoneReading.{body_of}
use Rattle.psos_check.proofs.LineLoop.{each_at}

-- ---- two first lines

not_before : (s : Script) (lines : List (List ℕ)) (n m : ℕ) → IsStray s lines n → IsStray s lines m → n < m → ⊥
not_before s lines n m a b lt =
    let it = b.before (n - 1) (omega (arith, lt, a.from_one)) in
    a.no_user it.0 it.1

one_stray : (s : Script) (lines : List (List ℕ)) (n m : ℕ) → IsStray s lines n → IsStray s lines m → n ≡ m
one_stray s lines n m a b = elim (cases_lt n m) [
  | inl lt ↦ absurd (not_before s lines n m a b lt)
  | inr le ↦ elim (cases_lt m n) [ inl lt ↦ absurd (not_before s lines m n b a lt) | inr ge ↦ omega (arith, le, ge) ]
]

-- ---- two lists

done_no_user : (s : Script) (line : List ℕ) (x : Stamped) → IsWellFormed s → IsDoneLine line → IsUserLine s line x → ⊥
done_no_user s line x w d l = no_user_line s line d.requests (decimal d.calls) x w d.few_requests (body_of line d) l

same_said : (s : Script) (lines : List (List ℕ)) (xs ys : List Stamped) → IsWellFormed s → AreUserLines s lines xs → AreUserLines s lines ys → xs ≡ ys
same_said s [] [] [] w a b = refl
same_said s [] [] (y ∷ ys) w a b = absurd b
same_said s [] (x ∷ xs) ys w a b = absurd a
same_said s (line ∷ lines) [] ys w a b = absurd a
same_said s (line ∷ lines) (x ∷ xs) [] w a b = absurd b
same_said s (line ∷ lines) (x ∷ xs) (y ∷ ys) w a b =
    ap (λ (z : Stamped). z ∷ xs) (one_said s line x y w a.0 b.0) ∙ ap (λ (zs : List Stamped). y ∷ zs) (same_said s lines xs ys w a.1 b.1)

tails : (x y : List ℕ) (xs ys : List (List ℕ)) → x ∷ xs ≡ y ∷ ys → (x ≡ y) × (xs ≡ ys)
tails x y xs ys e = (cc, cc)

-- lists that are equal with one line more behind them are equal
front_same : (xs ys : List (List ℕ)) (x y : List ℕ) → xs ++ x ∷ [] ≡ ys ++ y ∷ [] → xs ≡ ys
front_same [] [] x y e = refl
front_same [] (k ∷ ys) x y e = absurd (omega (arith, ap length e, length-append ys (y ∷ [])))
front_same (k ∷ xs) [] x y e = absurd (omega (arith, ap length e, length-append xs (x ∷ [])))
front_same (k ∷ xs) (l ∷ ys) x y e =
    let t = tails k l (xs ++ x ∷ []) (ys ++ y ∷ []) e in
    ap (λ (z : List ℕ). z ∷ xs) t.0 ∙ ap (λ (zs : List (List ℕ)). l ∷ zs) (front_same xs ys x y t.1)

one_read : (s : Script) (lines : List (List ℕ)) (xs ys : List Stamped) → IsWellFormed s → AreRead s lines xs → AreRead s lines ys → xs ≡ ys
one_read s lines xs ys w a b =
    let same : a.users ≡ b.users = front_same a.users b.users a.done b.done (sym a.cut ∙ b.cut) in
    same_said s b.users xs ys w (subst (λ (ls : List (List ℕ)). AreUserLines s ls xs) same a.each) b.each

-- ---- a first line and a list

not_stray : (s : Script) (lines : List (List ℕ)) (n : ℕ) (xs : List Stamped) → IsWellFormed s → IsStray s lines n → AreRead s lines xs → ⊥
not_stray s lines n xs w a b = elim (cases_lt n (length b.users + 1)) [
  | inl lt ↦ among (omega (arith, lt, a.from_one))
  | inr le ↦ elim (cases_lt (length b.users + 1) n) [ inl lt ↦ behind lt | inr ge ↦ last (omega (arith, le, ge)) ]
] where
  long : length lines ≡ length b.users + 1
  long = ap length b.cut ∙ length-append b.users (b.done ∷ [])

  done_at : get_or lines (length b.users) [] ≡ b.done
  done_at = ap (λ (ls : List (List ℕ)). get_or ls (length b.users) []) b.cut ∙ get_or-append_seam b.users b.done [] []

  among : n - 1 < length b.users → ⊥
  among lt =
      let it = each_at s b.users xs (n - 1) b.each lt in
      let here : get_or b.users (n - 1) [] ≡ get_or lines (n - 1) [] = sym (ap (λ (ls : List (List ℕ)). get_or ls (n - 1) []) b.cut ∙ get_or_append_left b.users (b.done ∷ []) [] (n - 1) lt) in
      a.no_user it.0 (subst (λ (t : List ℕ). IsUserLine s t it.0) here it.1)

  last : n ≡ length b.users + 1 → ⊥
  last e =
      let here : b.done ≡ get_or lines (n - 1) [] = sym done_at ∙ ap (λ (i : ℕ). get_or lines i []) (let k : length b.users ≡ n - 1 = omega (arith, e) in k) in
      a.not_done (e ∙ sym long) (subst IsDoneLine here b.last)

  behind : length b.users + 1 < n → ⊥
  behind lt =
      let it = a.before (length b.users) lt in
      done_no_user s b.done it.0 w b.last (subst (λ (t : List ℕ). IsUserLine s t it.0) done_at it.1)

-- ---- all of it

pub one_text : (s : Script) (text : List ℕ) (a b : Text) → IsWellFormed s → IsText s text a → IsText s text b → SaySame a b
one_text s text TooLong TooLong w p q = tt
one_text s text TooLong (Line m) w p q = omega (arith, p, q.0)
one_text s text TooLong (Read b) w p q = omega (arith, p, q.0)
one_text s text (Line n) TooLong w p q = omega (arith, p.0, q)
one_text s text (Line n) (Line m) w p q = one_stray s (whole_lines text) n m p.1 q.1
one_text s text (Line n) (Read b) w p q = not_stray s (whole_lines text) n b.items w p.1 q.1
one_text s text (Read a) TooLong w p q = omega (arith, p.0, q)
one_text s text (Read a) (Line m) w p q = not_stray s (whole_lines text) m a.items w q.1 p.1
one_text s text (Read a) (Read b) w p q = one_read s (whole_lines text) a.items b.items w p.1 q.1
