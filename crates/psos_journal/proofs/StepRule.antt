-- Each step keeps the rule over the cells.
use Rattle.std.proofs.Common.{◌≡◌, ℕ, zero, suc, ◌+◌, ◌<◌, ◌≤◌, ◌==◌, Bool, true, false, List, [], ◌∷◌, ◌++◌, length, set, refl, ap, sym, ◌∙◌, subst, arith, inl, inr, length-append, None, Some}
use Rattle.std.specs.declared.option.Option.{Option}
use Rattle.std.proofs.lemmas.List.{append-nil, get_or-set_other, length-set}
use Rattle.std.proofs.lemmas.Bool.{false≢true, cases_eq}
use Rattle.std.proofs.lemmas.Grind.{get_or-set_at}
use Rattle.std.proofs.lemmas.Bool.Decides.{nat_tests}
use mathlib.Core.List.{IsPrefix}
use prog.Atomic.{either}
use Rattle.logbook.specs.Pages.{Cell, cell, keeps, gives, adds, nib, no_nib, may_write, may_make, step, Moves, Goes}
use Rattle.psos_journal.specs.Cells.{entries_in, AreFilled, Makes, Adds, Looks}
use Rattle.psos_journal.proofs.Beginnings.{entries_in-append, entries_in_begins, long_is_whole}

module _ {A : Type 0} where
  abbrev pub shown : List (Option A) → List (Option A)
  shown log = []

  abbrev pub moved : List (Option A) → List (Option A) → ℕ → Type 0
  moved xs ys n = Unit {0}

-- the cells behind the first, of which the first n after the spare one are full
abbrev pub Full : List Cell → ℕ → Type 0
Full rest n = (j : ℕ) → j < n → (cell rest (suc j)).1 ≡ true

abbrev pub Bare : List Cell → ℕ → Type 0
Bare rest n = (j : ℕ) → n ≤ j → (cell rest (suc j)).1 ≡ false

-- one more bare cell at the end
cell-bare : (cs : List Cell) (j : ℕ) → cell (cs ++ (0, false) ∷ []) j ≡ cell cs j
cell-bare [] zero = refl
cell-bare [] (suc j) = refl
cell-bare (c ∷ cs) zero = refl
cell-bare (c ∷ cs) (suc j) = cell-bare cs j

-- nothing is added: the entries and the cells stay
stays : {A : Type 0} (rest : List Cell) (log : List (Option A)) (n : ℕ) → suc (length rest) ≡ n → Full rest (length (entries_in log)) → Bare rest (length (entries_in log))
    → AreFilled ((n, true) ∷ rest) (log ++ [])
stays rest log n size full bare = record {
  rest = rest;
  whole = ap (λ m. (m, true) ∷ rest) (sym size);
  full = rw (append-nil log) full;
  bare = rw (append-nil log) bare;
}

makes_goes : {A : Type 0} (rest : List Cell) (log v : List (Option A)) (e : Option A) (old : ℕ) → Full rest (length (entries_in log)) → Bare rest (length (entries_in log))
    → (b : Bool) → (suc (length rest) == old) ≡ b
    → Goes AreFilled shown moved 0 (v, (no_nib, None)) (λ n. either (n == old) (old + 1) n) (Makes (step 0 old (old + 1) e) (v, (no_nib, None))) ((suc (length rest), true) ∷ rest) log
makes_goes rest log v e old full bare true is =
    let size : suc (length rest) ≡ old = grind (arith, nat_tests) in
    let grown : suc (length (rest ++ (0, false) ∷ [])) ≡ either (suc (length rest) == old) (old + 1) (suc (length rest)) = rw is (omega (arith, size, length-append rest ((0, false) ∷ []))) in (
      adds,
      [],
      None,
      tt,
      stays (rest ++ (0, false) ∷ []) log _ grown (λ j less. rw (cell-bare rest (suc j)) (full j less)) (λ j less. rw (cell-bare rest (suc j)) (bare j less)),
      inl (refl, refl),
      rw is (ap (λ k. nib may_make k 0) size),
    )
makes_goes rest log v e old full bare false is = (
  keeps,
  [],
  None,
  tt,
  stays rest log _ (rw is refl) full bare,
  inl (refl, refl),
  rw is tt,
)

-- whatever the cells are, one more is made, or their number was another
pub makes_moves : {A : Type 0} (v : List (Option A)) (e : Option A) (old : ℕ)
    → Moves AreFilled shown moved 0 (v, (no_nib, None)) (λ n. either (n == old) (old + 1) n) (Makes (step 0 old (old + 1) e) (v, (no_nib, None)))
makes_moves {A = A} v e old cs log kept pre away =
    let P : List Cell → Type 0 = λ c. (0 < length c) × ((cell c 0).1 ≡ true) × Goes (AreFilled {A = A}) shown moved 0 (v, (no_nib, None)) (λ n. either (n == old) (old + 1) n) (Makes (step 0 old (old + 1) e) (v, (no_nib, None))) c log in
    subst P (sym kept.whole) (omega arith, refl, makes_goes kept.rest log v e old kept.full kept.bare (suc (length kept.rest) == old) refl)

-- the pen's cell is bare, so no entry is beyond what was seen
seen_all : {A : Type 0} (rest : List Cell) (log : List (Option A)) (n : ℕ) → Full rest (length (entries_in log)) → (cell rest (suc n)).1 ≡ false → length (entries_in log) ≤ n
seen_all rest log n full away = grind (arith, full n, away, false≢true)

-- what is known where a pen has the bare cell behind all that was seen
record AtTheEnd {A : Type 0} (rest : List Cell) (log v : List (Option A)) (n : ℕ) : Type 0 where
  full : Full rest (length (entries_in log))
  bare : Bare rest (length (entries_in log))
  room : suc n < length rest
  away : (cell rest (suc n)).1 ≡ false
  all : length (entries_in log) ≤ n

at_the_end : {A : Type 0} (rest : List Cell) (log v : List (Option A)) (n m : ℕ) → Full rest (length (entries_in log)) → Bare rest (length (entries_in log))
    → (suc (suc n) < length ((m, true) ∷ rest)) × ((cell ((m, true) ∷ rest) (suc (suc n))).1 ≡ false) → AtTheEnd rest log v n
at_the_end rest log v n m full bare away = record {
  full = full;
  bare = bare;
  room = omega (arith, away.0);
  away = away.1;
  all = seen_all rest log n full away.1;
}

-- the count of cells stays
same_count : (n : ℕ) → either (suc n == 0) 0 (suc n) ≡ suc n
same_count n = grind arith

module _ (rest : List Cell) (n : ℕ) where
  -- the cells, with the bare one that comes next full
  abbrev one_more : List Cell
  one_more = set rest (suc n) (0, true)

  filled : suc n < length rest → Full rest n → Full one_more (n + 1)
  filled room full j less =
      elim (cases_eq j n) as (λ _. (cell one_more (suc j)).1 ≡ true) [
        | inl same ↦ ap (λ (c : Cell). c.1) (get_or-set_at rest (suc n) (suc j) (0, true) (0, false) (ap suc same) room)
        | inr other ↦ ap (λ (c : Cell). c.1) (get_or-set_other rest (suc n) (suc j) (0, true) (0, false) (λ e. other (omega (arith, e)))) ∙ full j (omega (arith, other))
      ]

  left_bare : Bare rest n → Bare one_more (n + 1)
  left_bare bare j less = ap (λ (c : Cell). c.1) (get_or-set_other rest (suc n) (suc j) (0, true) (0, false) (λ e. absurd (omega (arith, e)))) ∙ bare j (omega arith)

adds_goes : {A : Type 0} (rest : List Cell) (log v : List (Option A)) (x : A) (n : ℕ) → length (entries_in v) ≡ n → IsPrefix v log → AtTheEnd rest log v n
    → Goes AreFilled shown moved 0 (v, (nib may_write (suc (suc n)) 0, None)) (λ m. either (m == 0) 0 m) (Adds (step 0 0 0 (Some x)) (v, (nib may_write (suc (suc n)) 0, None))) ((suc (length rest), true) ∷ rest) log
adds_goes rest log v x n size pre end =
    let same : entries_in v ≡ entries_in log = long_is_whole _ _ (entries_in_begins v log pre) (omega (arith, end.all)) in
    let here : length (entries_in log) ≡ n = sym (ap length same) ∙ size in
    let more : entries_in (log ++ Some x ∷ []) ≡ entries_in v ++ x ∷ [] = entries_in-append log (Some x ∷ []) ∙ ap (λ w. w ++ x ∷ []) (sym same) in
    let longer : length (entries_in (log ++ Some x ∷ [])) ≡ n + 1 = ap length more ∙ omega (arith, length-append (entries_in v) (x ∷ []), size) in (
      gives,
      Some x ∷ [],
      None,
      refl,
      record {
        rest = one_more rest n;
        whole = ap (λ k. (k, true) ∷ one_more rest n) (same_count (length rest) ∙ ap suc (sym (length-set rest (suc n) (0, true))));
        full = rw longer (filled rest n end.room (rw (sym here) end.full));
        bare = rw longer (left_bare rest n (rw (sym here) end.bare));
      },
      inl (refl, refl),
      more ∙ sym (entries_in-append v (Some x ∷ [])),
    )

-- whatever the cells are, the entry is added to all that was seen
pub adds_moves : {A : Type 0} (v : List (Option A)) (x : A) (n : ℕ) → length (entries_in v) ≡ n
    → Moves AreFilled shown moved 0 (v, (nib may_write (suc (suc n)) 0, None)) (λ m. either (m == 0) 0 m) (Adds (step 0 0 0 (Some x)) (v, (nib may_write (suc (suc n)) 0, None)))
adds_moves {A = A} v x n size cs log kept pre away =
    let P : List Cell → Type 0 = λ c. (suc (suc n) < length c) × ((cell c (suc (suc n))).1 ≡ false) → (0 < length c) × ((cell c 0).1 ≡ true)
    × Goes (AreFilled {A = A}) shown moved 0 (v, (nib may_write (suc (suc n)) 0, None)) (λ m. either (m == 0) 0 m) (Adds (step 0 0 0 (Some x)) (v, (nib may_write (suc (suc n)) 0, None))) c log in
    subst P (sym kept.whole) (λ left. (omega arith, refl, adds_goes kept.rest log v x n size pre (at_the_end kept.rest log v n (suc (length kept.rest)) kept.full kept.bare left))) (away refl)

-- whatever the cells are, no entry is beyond the pen's cell
pub looks_moves : {A : Type 0} (v : List (Option A)) (e : Option A) (n : ℕ)
    → Moves AreFilled shown moved 0 (v, (nib may_write (suc (suc n)) 0, None)) (λ m. either (m == 0) 0 m) (Looks (step 0 0 0 e) (v, (nib may_write (suc (suc n)) 0, None)))
looks_moves {A = A} v e n cs log kept pre away =
    let P : List Cell → Type 0 = λ c. (suc (suc n) < length c) × ((cell c (suc (suc n))).1 ≡ false) → (0 < length c) × ((cell c 0).1 ≡ true)
    × Goes (AreFilled {A = A}) shown moved 0 (v, (nib may_write (suc (suc n)) 0, None)) (λ m. either (m == 0) 0 m) (Looks (step 0 0 0 e) (v, (nib may_write (suc (suc n)) 0, None))) c log in
    subst P (sym kept.whole) (λ left. (
      omega arith,
      refl,
      (
        keeps,
        [],
        None,
        tt,
        stays kept.rest log _ (sym (same_count (length kept.rest))) kept.full kept.bare,
        inl (refl, refl),
        (refl, rw (append-nil log) (omega (arith, seen_all kept.rest log n kept.full left.1))),
      ),
    )) (away refl)
