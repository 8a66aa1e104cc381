-- Cutting a text at a byte, and into its lines.
use Rattle.std.proofs.Common.{◌≡◌, ◌≢◌, ℕ, ◌+◌, ◌<◌, ◌≤◌, Bool, true, false, cond, eqb, not, List, [], ◌∷◌, ◌++◌, length, take, drop, Option, Some, None, refl, sym, ap, subst, ◌∙◌, arith}
use Rattle.std.specs.Prelude.{option_map}
use Rattle.std.specs.List.{position_or_len, onto_first, AllByRecursion}
use Rattle.std.proofs.lemmas.Bool.{eqb-true, eq-eqb, ne_eqb}
use Rattle.std.proofs.lemmas.List.{drop-drop}
use Rattle.psos_text.proofs.FirstPlaces.{is_byte, take_cons, drop_cons}
use Rattle.psos_text.proofs.ReadingSteps.{mapped_some, some_is}
use Rattle.psos_check.specs.Cuts.{cut_at}
use Rattle.psos_check.specs.Lines.{whole_lines}

-- ---- the place of the cut

-- the first n bytes, and what stands behind the next
abbrev pub parted : ℕ → List ℕ → Option (List ℕ × List ℕ)
parted n text = Some (take n text, drop (1 + n) text)

-- what a cut of the bytes behind a byte gives with it
abbrev cut_at_from : ℕ → Option (List ℕ × List ℕ) → Option (List ℕ × List ℕ)
cut_at_from b o = option_map (λ (p : List ℕ × List ℕ). (b ∷ p.0, p.1)) o

one_later : (b : ℕ) (bs : List ℕ) (n : ℕ) → cut_at_from b (parted n bs) ≡ parted (1 + n) (b ∷ bs)
one_later b bs n =
    ap (λ (t : List ℕ). (let o : Option (List ℕ × List ℕ) = Some (t, drop (1 + n) bs) in o)) (sym (take_cons n b bs))
    ∙ ap (λ (t : List ℕ). (let o : Option (List ℕ × List ℕ) = Some (take (1 + n) (b ∷ bs), t) in o)) (sym (drop_cons (1 + n) b bs))

found_case : (sep b : ℕ) (bs : List ℕ) (n : ℕ) (t : Bool) → (n < length bs → cut_at sep bs ≡ parted n bs) → cond (not t) (1 + n) 0 < length (b ∷ bs)
    → cond t (Some ([], bs)) (cut_at_from b (cut_at sep bs)) ≡ parted (cond (not t) (1 + n) 0) (b ∷ bs)
found_case sep b bs n true h lt = refl
found_case sep b bs n false h lt = ap (cut_at_from b) (h (omega (arith, lt))) ∙ one_later b bs n

-- a byte that stands within the text cuts it there
pub cut_found : (sep : ℕ) (text : List ℕ) → position_or_len (is_byte sep) text < length text → cut_at sep text ≡ parted (position_or_len (is_byte sep) text) text
cut_found sep [] lt = absurd (omega (arith, lt))
cut_found sep (b ∷ bs) lt = found_case sep b bs (position_or_len (is_byte sep) bs) (eqb b sep) (λ less. cut_found sep bs less) lt

missed_case : (sep b : ℕ) (bs : List ℕ) (n : ℕ) (t : Bool) → (length bs ≤ n → cut_at sep bs ≡ None) → length (b ∷ bs) ≤ cond (not t) (1 + n) 0
    → cond t (Some ([], bs)) (cut_at_from b (cut_at sep bs)) ≡ None
missed_case sep b bs n true h le = absurd (omega (arith, le))
missed_case sep b bs n false h le = ap (cut_at_from b) (h (omega (arith, le)))

-- a byte that does not stand within the text does not cut it
pub cut_missed : (sep : ℕ) (text : List ℕ) → length text ≤ position_or_len (is_byte sep) text → cut_at sep text ≡ None
cut_missed sep [] le = refl
cut_missed sep (b ∷ bs) le = missed_case sep b bs (position_or_len (is_byte sep) bs) (eqb b sep) (λ less. cut_missed sep bs less) le

-- ---- what a cut says

-- a text is its front without the byte, the byte, and what stands behind it
pub record IsCut (sep : ℕ) (text front behind : List ℕ) : Type 0 where
  pub lacks : AllByRecursion (λ b. b ≢ sep) front
  pub parts : text ≡ front ++ sep ∷ behind

cut_case : (sep b : ℕ) (bs : List ℕ) (p : List ℕ × List ℕ) (t : Bool) → eqb b sep ≡ t → ((q : List ℕ × List ℕ) → cut_at sep bs ≡ Some q → IsCut sep bs q.0 q.1)
    → cond t (Some ([], bs)) (cut_at_from b (cut_at sep bs)) ≡ Some p → IsCut sep (b ∷ bs) p.0 p.1
cut_case sep b bs p true t h e =
    let same : ([], bs) ≡ p = some_is ([], bs) p e in
    let P : List ℕ × List ℕ → Type 0 = λ q. IsCut sep (b ∷ bs) q.0 q.1 in
    subst P same (record { lacks = tt; parts = ap (λ (x : ℕ). x ∷ bs) (eqb-true b sep t) })
cut_case sep b bs p false t h e =
    let m = mapped_some (λ (q : List ℕ × List ℕ). (b ∷ q.0, q.1)) (cut_at sep bs) p e in
    let it = h m.0 m.1 in
    let P : List ℕ × List ℕ → Type 0 = λ q. IsCut sep (b ∷ bs) q.0 q.1 in
    subst P m.2 (record { lacks = (λ s. absurd (differs s), it.lacks); parts = ap (λ (x : List ℕ). b ∷ x) it.parts }) where
      differs : b ≡ sep → ⊥
      differs s = cc (eq-eqb b sep s, t)

pub cut_takes : (sep : ℕ) (text : List ℕ) (p : List ℕ × List ℕ) → cut_at sep text ≡ Some p → IsCut sep text p.0 p.1
cut_takes sep [] p e = absurd cc
cut_takes sep (b ∷ bs) p e = cut_case sep b bs p (eqb b sep) refl (λ q f. cut_takes sep bs q f) e

-- a text of such parts is cut into them
pub cut_again : (sep : ℕ) (front behind : List ℕ) → AllByRecursion (λ b. b ≢ sep) front → cut_at sep (front ++ sep ∷ behind) ≡ Some (front, behind)
cut_again sep [] behind h = rw (eq-eqb sep sep refl) refl
cut_again sep (b ∷ bs) behind h = rw (ne_eqb b sep h.0) (ap (cut_at_from b) (cut_again sep bs behind h.1))

-- a text without the byte is not cut
pub cut_none : (sep : ℕ) (text : List ℕ) → AllByRecursion (λ b. b ≢ sep) text → cut_at sep text ≡ None
cut_none sep [] h = refl
cut_none sep (b ∷ bs) h = rw (ne_eqb b sep h.0) (ap (cut_at_from b) (cut_none sep bs h.1))

-- a text that is not cut lacks the byte
uncut_case : (sep b : ℕ) (bs : List ℕ) (t : Bool) → eqb b sep ≡ t → (cut_at sep bs ≡ None → AllByRecursion (λ b. b ≢ sep) bs)
    → cond t (Some ([], bs)) (cut_at_from b (cut_at sep bs)) ≡ None → AllByRecursion (λ b. b ≢ sep) (b ∷ bs)
uncut_case sep b bs true t h e = absurd cc
uncut_case sep b bs false t h e = (λ s. absurd (differs s), h (unmapped (cut_at sep bs) e)) where
  differs : b ≡ sep → ⊥
  differs s = cc (eq-eqb b sep s, t)

  unmapped : (o : Option (List ℕ × List ℕ)) → cut_at_from b o ≡ None → o ≡ None
  unmapped None e = refl
  unmapped (Some q) e = absurd cc

pub uncut_lacks : (sep : ℕ) (text : List ℕ) → cut_at sep text ≡ None → AllByRecursion (λ b. b ≢ sep) text
uncut_lacks sep [] e = tt
uncut_lacks sep (b ∷ bs) e = uncut_case sep b bs (eqb b sep) refl (uncut_lacks sep bs) e

-- ---- bytes that lists lack

pub lacks_both : (sep : ℕ) (xs ys : List ℕ) → AllByRecursion (λ b. b ≢ sep) xs → AllByRecursion (λ b. b ≢ sep) ys → AllByRecursion (λ b. b ≢ sep) (xs ++ ys)
lacks_both sep [] ys g h = h
lacks_both sep (x ∷ xs) ys g h = (g.0, lacks_both sep xs ys g.1 h)

-- the back of a list that lacks a byte lacks it
pub lacks_behind : (sep : ℕ) (xs ys : List ℕ) → AllByRecursion (λ b. b ≢ sep) (xs ++ ys) → AllByRecursion (λ b. b ≢ sep) ys
lacks_behind sep [] ys h = h
lacks_behind sep (x ∷ xs) ys h = lacks_behind sep xs ys h.1

-- ---- lines

-- a text that begins with a line and its line feed
pub first_line : (front behind : List ℕ) → AllByRecursion (λ b. b ≢ 10) front → whole_lines (front ++ 10 ∷ behind) ≡ (front ++ 10 ∷ []) ∷ whole_lines behind
first_line [] behind h = refl
first_line (b ∷ bs) behind h = rw (ne_eqb b 10 h.0) (ap (onto_first b) (first_line bs behind h.1))

-- a text without a line feed is one line
pub only_line : (text : List ℕ) → 0 < length text → AllByRecursion (λ b. b ≢ 10) text → whole_lines text ≡ text ∷ []
only_line [] some h = absurd (omega (arith, some))
only_line (b ∷ []) some h = rw (ne_eqb b 10 h.0) refl
only_line (b ∷ c ∷ cs) some h = rw (ne_eqb b 10 h.0) (ap (onto_first b) (only_line (c ∷ cs) (omega arith) h.1))

-- ---- what the code cuts

pub code_found : (sep : ℕ) (text front rest behind : List ℕ) (n : ℕ) → n ≡ position_or_len (is_byte sep) text → front ≡ take n text → rest ≡ drop n text → 0 < length rest → n + length rest ≡ length text → behind ≡ drop 1 rest
    → Some (front, behind) ≡ cut_at sep text
code_found sep text front rest behind n e f r some whole b =
    let lt : position_or_len (is_byte sep) text < length text = omega (arith, e, some, whole) in
    let is : behind ≡ drop (1 + n) text = b ∙ ap (λ (t : List ℕ). drop 1 t) r ∙ drop-drop 1 n text ∙ ap (λ (m : ℕ). drop m text) (let c : n + 1 ≡ 1 + n = omega arith in c) in
    rw (f, is, e) (sym (cut_found sep text lt))

pub code_missed : (sep : ℕ) (text rest : List ℕ) (n : ℕ) → n ≡ position_or_len (is_byte sep) text → length rest ≡ 0 → length rest + n ≡ length text → None ≡ cut_at sep text
code_missed sep text rest n e none whole = sym (cut_missed sep text (omega (arith, e, none, whole)))
