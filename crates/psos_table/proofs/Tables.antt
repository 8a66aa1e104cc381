-- What a table has under a number after a change, how many rows it then has, and what still holds of each row.
use Rattle.std.proofs.Common.{◌≡◌, ℕ, zero, suc, ◌+◌, ◌-◌, ◌<◌, ◌≤◌, Bool, true, false, cond, eqb, List, [], ◌∷◌, length, Option, Some, None, refl, sym, ap, subst, ◌∙◌, inl, inr, arith}
use Rattle.std.specs.Prelude.{is_some}
use Rattle.std.specs.Option.{option_map}
use Rattle.std.specs.Ordering.{nat_cmp, eq_by_cmp}
use Rattle.std.specs.Cmp.{nat_cmp_total}
use Rattle.std.specs.FinMap.{empty, entries, find, get, get-empty, get-entries, get-insert, get-remove, len-empty, len-entries, len-insert, len-remove, empty_of_len, same_map, nat_cmp-IsAntisymmetric}
use Rattle.std.proofs.lemmas.Bool.{eq-eqb, ne_eqb, cases_eq}
use Rattle.std.proofs.lemmas.Bool.Decides.{nat_tests}
use Rattle.std.proofs.lemmas.Map.Entries.{option_filter}
use Rattle.std.proofs.lemmas.Option.{same_Some, none-some}
use Rattle.psos_table.specs.Table.{Table, at, has, size, put, without, kept, edit, edited}
use Rattle.psos_table.proofs.Rows.{get_kept}

-- the order of numbers ties equal ones alone
pub eq_by_nat_cmp : (q k : ℕ) → eq_by_cmp nat_cmp q k ≡ eqb q k
eq_by_nat_cmp q k = grind (arith, nat_tests)

-- ---- what is under a number

pub at-empty : {X : Type 0} (q : ℕ) → at (empty {X = X} {R = nat_cmp}) q ≡ None
at-empty q = get-empty nat_cmp q

pub at-put : {X : Type 0} (m : Table X) (k : ℕ) (x : X) (q : ℕ) → at (put m k x) q ≡ cond (eqb q k) (Some x) (at m q)
at-put m k x q = get-insert nat_cmp_total m k x q ∙ ap (λ b. cond b (Some x) (get m q)) (eq_by_nat_cmp q k)

pub at-put_here : {X : Type 0} (m : Table X) (k : ℕ) (x : X) → at (put m k x) k ≡ Some x
at-put_here m k x = at-put m k x k ∙ ap (λ b. cond b (Some x) (at m k)) (eq-eqb k k refl)

pub at-put_apart : {X : Type 0} (m : Table X) (k : ℕ) (x : X) (q : ℕ) → (q ≡ k → ⊥) → at (put m k x) q ≡ at m q
at-put_apart m k x q apart = at-put m k x q ∙ ap (λ b. cond b (Some x) (at m q)) (ne_eqb q k apart)

pub at-without : {X : Type 0} (m : Table X) (k q : ℕ) → at (without m k) q ≡ cond (eqb q k) None (at m q)
at-without m k q = get-remove nat_cmp_total m k q ∙ ap (λ b. cond b None (get m q)) (eq_by_nat_cmp q k)

pub at-without_here : {X : Type 0} (m : Table X) (k : ℕ) → at (without m k) k ≡ None
at-without_here m k = at-without m k k ∙ ap (λ b. cond b None (at m k)) (eq-eqb k k refl)

pub at-without_apart : {X : Type 0} (m : Table X) (k q : ℕ) → (q ≡ k → ⊥) → at (without m k) q ≡ at m q
at-without_apart m k q apart = at-without m k q ∙ ap (λ b. cond b None (at m q)) (ne_eqb q k apart)

pub at-kept : {X : Type 0} (test : X → Bool) (m : Table X) (q : ℕ) → at (kept test m) q ≡ option_filter test (at m q)
at-kept test m q = get_kept nat_cmp_total test m q

-- two tables with the same rows are equal
pub same_table : {X : Type 0} (m n : Table X) → ((k : ℕ) → at m k ≡ at n k) → m ≡ n
same_table m n is = same_map nat_cmp_total nat_cmp-IsAntisymmetric m n is

-- ---- a row changed in its place

-- where there is a row, the changed one is put in its place
pub edit_some : {X : Type 0} (m : Table X) (k : ℕ) (f : X → X) (x : X) → at m k ≡ Some x → edit m k f ≡ put m k (f x)
edit_some m k f x e = ap (edited m k f) e

-- a change that gives the row w is the change to w
pub edit_to : {X : Type 0} (m : Table X) (k : ℕ) (f : X → X) (x w : X) → at m k ≡ Some x → w ≡ f x → edit m k (λ _. w) ≡ edit m k f
edit_to m k f x w e is = edit_some m k (λ _. w) x e ∙ ap (put m k) is ∙ sym (edit_some m k f x e)

-- where there is none, nothing changes
pub edit_none : {X : Type 0} (m : Table X) (k : ℕ) (f : X → X) → at m k ≡ None → edit m k f ≡ m
edit_none m k f e = ap (edited m k f) e

pub at-edit_here : {X : Type 0} (m : Table X) (k : ℕ) (f : X → X) → at (edit m k f) k ≡ option_map f (at m k)
at-edit_here {X} m k f = by_row (at m k) refl
  where
    by_row : (o : Option X) → at m k ≡ o → at (edited m k f o) k ≡ option_map f o
    by_row None e = e
    by_row (Some x) e = at-put_here m k (f x)

pub at-edit_apart : {X : Type 0} (m : Table X) (k : ℕ) (f : X → X) (q : ℕ) → (q ≡ k → ⊥) → at (edit m k f) q ≡ at m q
at-edit_apart {X} m k f q apart = by_row (at m k)
  where
    by_row : (o : Option X) → at (edited m k f o) q ≡ at m q
    by_row None = refl
    by_row (Some x) = at-put_apart m k (f x) q apart

pub at-edit : {X : Type 0} (m : Table X) (k : ℕ) (f : X → X) (q : ℕ) → at (edit m k f) q ≡ cond (eqb q k) (option_map f (at m k)) (at m q)
at-edit m k f q = elim (cases_eq q k) [
  | inl same ↦ ap (at (edit m k f)) same ∙ at-edit_here m k f ∙ sym (ap (λ b. cond b (option_map f (at m k)) (at m q)) (eq-eqb q k same))
  | inr apart ↦ at-edit_apart m k f q apart ∙ sym (ap (λ b. cond b (option_map f (at m k)) (at m q)) (ne_eqb q k apart))
]

-- ---- how many rows

pub size-empty : (X : Type 0) → size (empty {X = X} {R = nat_cmp}) ≡ 0
size-empty X = len-empty nat_cmp X

pub size-put : {X : Type 0} (m : Table X) (k : ℕ) (x : X) → size (put m k x) ≡ cond (has m k) (size m) (size m + 1)
size-put m k x = len-insert nat_cmp_total m k x

pub size-put_new : {X : Type 0} (m : Table X) (k : ℕ) (x : X) → at m k ≡ None → size (put m k x) ≡ size m + 1
size-put_new m k x e = size-put m k x ∙ ap (λ o. cond (is_some o) (size m) (size m + 1)) e

pub size-put_old : {X : Type 0} (m : Table X) (k : ℕ) (x y : X) → at m k ≡ Some y → size (put m k x) ≡ size m
size-put_old m k x y e = size-put m k x ∙ ap (λ o. cond (is_some o) (size m) (size m + 1)) e

pub size-edit : {X : Type 0} (m : Table X) (k : ℕ) (f : X → X) → size (edit m k f) ≡ size m
size-edit {X} m k f = by_row (at m k) refl
  where
    by_row : (o : Option X) → at m k ≡ o → size (edited m k f o) ≡ size m
    by_row None e = refl
    by_row (Some x) e = size-put_old m k (f x) x e

pub size-without : {X : Type 0} (m : Table X) (k : ℕ) → size (without m k) ≡ cond (has m k) (size m - 1) (size m)
size-without m k = len-remove nat_cmp_total m k

-- a table with a row has at least one
pub size-some : {X : Type 0} (m : Table X) (k : ℕ) (x : X) → at m k ≡ Some x → 0 < size m
size-some m k x e = elim (cases_eq (size m) 0) [
  | inl none ↦ absurd (none-some x (sym (at-empty k) ∙ (ap (λ (t : Table _). at t k) (sym (empty_of_len m none)) ∙ e)))
  | inr some ↦ omega arith
]

pub size-without_here : {X : Type 0} (m : Table X) (k : ℕ) (x : X) → at m k ≡ Some x → size (without m k) + 1 ≡ size m
size-without_here m k x e =
    let fewer = size-without m k ∙ ap (λ o. cond (is_some o) (size m - 1) (size m)) e in
    omega (arith, fewer, size-some m k x e)

pub size-without_absent : {X : Type 0} (m : Table X) (k : ℕ) → at m k ≡ None → size (without m k) ≡ size m
size-without_absent m k e = size-without m k ∙ ap (λ o. cond (is_some o) (size m - 1) (size m)) e

-- a row that a table has
pub record HasRow {X : Type 0} (m : Table X) (k : ℕ) : Type 0 where
  pub row : X
  pub there : at m k ≡ Some row

-- a number that has a row
record Numbered {X : Type 0} (m : Table X) : Type 0 where
  number : ℕ
  has : HasRow m number

-- a table with rows has a first one
some_row : {X : Type 0} (m : Table X) (c : ℕ) → size m ≡ suc c → Numbered m
some_row {X} m c e = first (entries m) refl
  where
    first : (es : List (ℕ × X)) → entries m ≡ es → Numbered m
    first [] is = absurd (omega (arith, sym e ∙ (len-entries m ∙ ap (λ (l : List (ℕ × X)). length l) is)))
    first (r ∷ es) is = record {
      number = r.0;
      has = record {
        row = r.1;
        there = get-entries m r.0 ∙ (ap (find nat_cmp r.0) is ∙ ap (λ b. cond b (Some r.1) (find nat_cmp r.0 es)) (eq_by_nat_cmp r.0 r.0 ∙ eq-eqb r.0 r.0 refl));
      };
    }

-- a row of a table with one number less is one of the table's, under another number
pub row-without : {X : Type 0} (m : Table X) (k q : ℕ) (x : X) → at (without m k) q ≡ Some x → (at m q ≡ Some x) × (q ≡ k → ⊥)
row-without m k q x e = elim (cases_eq q k) [
  | inl same ↦ absurd (none-some x (sym (at-without_here m k) ∙ (ap (at (without m k)) (sym same) ∙ e)))
  | inr apart ↦ (sym (at-without_apart m k q apart) ∙ e, apart)
]

size_at_most : {X Y : Type 0} (c : ℕ) (m : Table X) (n : Table Y) → size m ≡ c → ((k : ℕ) (x : X) → at m k ≡ Some x → HasRow n k) → c ≤ size n
size_at_most zero m n e h = omega arith
size_at_most (suc c) m n e h =
    let one = some_row m c e in
    let k = one.number in
    let other = h k one.has.row one.has.there in
    let fewer = size-without_here m k one.has.row one.has.there in
    let rest = size_at_most c (without m k) (without n k) (omega (arith, e, fewer)) (λ q x p.
    let old = row-without m k q x p in
    let there = h q x old.0 in
    record { row = there.row; there = at-without_apart n k q old.1 ∙ there.there }) in
    omega (arith, rest, size-without_here n k other.row other.there)

-- a table whose numbers are all numbers of another has at most as many rows
pub size-le : {X Y : Type 0} (m : Table X) (n : Table Y) → ((k : ℕ) (x : X) → at m k ≡ Some x → HasRow n k) → size m ≤ size n
size-le m n h = size_at_most (size m) m n refl h

-- ---- what holds of each row

-- a row that was kept is one of the table's, and passes
pub row-kept : {X : Type 0} (test : X → Bool) (m : Table X) (q : ℕ) (x : X) → at (kept test m) q ≡ Some x → (at m q ≡ Some x) × (test x ≡ true)
row-kept {X} test m q x e = by_row (at m q) (sym (at-kept test m q) ∙ e)
  where
    by_test : (y : X) (b : Bool) → test y ≡ b → cond b (Some y) None ≡ Some x → (Some y ≡ Some x) × (test x ≡ true)
    by_test y true t h = (h, ap test (sym (same_Some y x h)) ∙ t)
    by_test y false t h = absurd (none-some x h)

    by_row : (o : Option X) → option_filter test o ≡ Some x → (o ≡ Some x) × (test x ≡ true)
    by_row None h = absurd (none-some x h)
    by_row (Some y) h = by_test y (test y) refl h

pub size-kept : {X : Type 0} (test : X → Bool) (m : Table X) → size (kept test m) ≤ size m
size-kept test m = size-le (kept test m) m (λ k x e. record { row = x; there = (row-kept test m k x e).0 })

-- what holds of the new row and of each old one, holds of each after a put
pub row_put : {X : Type 0} (Q : ℕ → X → Type 0) (m : Table X) (k : ℕ) (y : X) → Q k y → ((u : ℕ) (x : X) → at m u ≡ Some x → Q u x) → (u : ℕ) (x : X) → at (put m k y) u ≡ Some x → Q u x
row_put Q m k y new old u x e = elim (cases_eq u k) [
  | inl same ↦
      let is : y ≡ x = same_Some y x (sym (at-put_here m k y) ∙ (ap (at (put m k y)) (sym same) ∙ e)) in
      subst (λ v. Q v x) (sym same) (subst (Q k) is new)
  | inr apart ↦ old u x (sym (at-put_apart m k y u apart) ∙ e)
]

-- what holds of each row, holds of each that is left
pub row_without : {X : Type 0} (Q : ℕ → X → Type 0) (m : Table X) (k : ℕ) → ((u : ℕ) (x : X) → at m u ≡ Some x → Q u x) → (u : ℕ) (x : X) → at (without m k) u ≡ Some x → Q u x
row_without Q m k old u x e = old u x (row-without m k u x e).0

-- what holds of each row, holds of each that is kept
pub row_kept : {X : Type 0} (Q : ℕ → X → Type 0) (test : X → Bool) (m : Table X) → ((u : ℕ) (x : X) → at m u ≡ Some x → Q u x) → (u : ℕ) (x : X) → at (kept test m) u ≡ Some x → Q u x
row_kept Q test m old u x e = old u x (row-kept test m u x e).0

-- what holds of each row, and of the changed one, holds of each after the change
pub row_edited : {X : Type 0} (Q : ℕ → X → Type 0) (m : Table X) (k : ℕ) (f : X → X) → ((x : X) → at m k ≡ Some x → Q k x → Q k (f x)) → ((u : ℕ) (x : X) → at m u ≡ Some x → Q u x) → (u : ℕ) (x : X) → at (edit m k f) u ≡ Some x → Q u x
row_edited {X} Q m k f changed old = by_row (at m k) refl
  where
    by_row : (o : Option X) → at m k ≡ o → (u : ℕ) (x : X) → at (edited m k f o) u ≡ Some x → Q u x
    by_row None e = old
    by_row (Some y) e = row_put Q m k (f y) (changed y e (old k y e)) old

-- what holds of each row of the empty table
pub row_empty : {X : Type 0} (Q : ℕ → X → Type 0) (u : ℕ) (x : X) → at (empty {X = X} {R = nat_cmp}) u ≡ Some x → Q u x
row_empty Q u x e = absurd (none-some x (sym (at-empty u) ∙ e))

-- ---- counting

-- a row that has a number of its own
pub record HasNumber {X : Type 0} (number : X → ℕ) (m : Table X) (n : ℕ) : Type 0 where
  pub key : ℕ
  pub row : X
  pub there : at m key ≡ Some row
  pub is : number row ≡ n

-- a table that has a row for each number below n has at least n rows
pub rows_for_each : {X : Type 0} (number : X → ℕ) (n : ℕ) (m : Table X) → ((i : ℕ) → i < n → HasNumber number m i) → n ≤ size m
rows_for_each number zero m has = omega arith
rows_for_each number (suc n) m has =
    let last = has n (omega arith) in
    let rest = rows_for_each number n (without m last.key) (λ i below.
    let h = has i (omega arith) in
    let apart : h.key ≡ last.key → ⊥ = λ e.
    let same : h.row ≡ last.row = same_Some _ _ (sym h.there ∙ (ap (at m) e ∙ last.there)) in
    omega (arith, sym h.is ∙ (ap number same ∙ last.is)) in
    record { key = h.key; row = h.row; there = at-without_apart m last.key h.key apart ∙ h.there; is = h.is }) in
    omega (arith, rest, size-without_here m last.key last.row last.there)
