-- A table has a row that passes a test where one of its entries' values does.
use Rattle.std.proofs.Common.{◌≡◌, ℕ, Bool, true, false, cond, List, [], ◌∷◌, length, map, nat_lt, refl, sym, ap, ◌∙◌, arith}
use Rattle.std.specs.Prelude.{◌||◌}
use Rattle.std.specs.List.{AllByRecursion, list_any, filter}
use Rattle.std.specs.declared.cmp.Ordering.TheVariants.{Less}
use Rattle.std.specs.List.Sorted.{IsStrictlySortedBy}
use Rattle.std.specs.Cmp.{nat_cmp_total}
use Rattle.std.specs.Ordering.{nat_cmp}
use Rattle.std.specs.FinMap.{from_entries, nat_cmp-IsAntisymmetric}
use Rattle.psos_table.specs.Table.{kept, size}
use Rattle.psos_table.proofs.Rows.{rows_kept, len_rows}

module _ {X : Type 0} (test : X → Bool) where
  some_left : (es : List (ℕ × X)) → list_any test (map (λ e. e.1) es) ≡ nat_lt 0 (length (filter (λ e. test e.1) es))
  some_left [] = refl
  some_left (e ∷ es) = by_test (test e.1) (some_left es)
    where
      by_test : (b : Bool) → list_any test (map (λ e. e.1) es) ≡ nat_lt 0 (length (filter (λ e. test e.1) es))
          → (b || list_any test (map (λ e. e.1) es)) ≡ nat_lt 0 (length (cond b (e ∷ filter (λ e. test e.1) es) (filter (λ e. test e.1) es)))
      by_test true rest = search arith
      by_test false rest = rest

  below_one : (k : ℕ) (f : ℕ × X) (fs : List (ℕ × X)) (b : Bool) → nat_cmp k f.0 ≡ Less → AllByRecursion (λ y. nat_cmp k y ≡ Less) (map (λ e. e.0) fs)
      → AllByRecursion (λ y. nat_cmp k y ≡ Less) (map (λ e. e.0) (cond b (f ∷ fs) fs))
  below_one k f fs true h a = (h, a)
  below_one k f fs false h a = a

  below : (k : ℕ) (fs : List (ℕ × X)) → AllByRecursion (λ y. nat_cmp k y ≡ Less) (map (λ e. e.0) fs) → AllByRecursion (λ y. nat_cmp k y ≡ Less) (map (λ e. e.0) (filter (λ e. test e.1) fs))
  below k [] a = a
  below k (f ∷ fs) a = below_one k f (filter (λ e. test e.1) fs) (test f.1) a.0 (below k fs a.1)

  sorted_one : (f : ℕ × X) (fs : List (ℕ × X)) (b : Bool) → AllByRecursion (λ y. nat_cmp f.0 y ≡ Less) (map (λ e. e.0) fs) → IsStrictlySortedBy nat_cmp (map (λ e. e.0) fs)
      → IsStrictlySortedBy nat_cmp (map (λ e. e.0) (cond b (f ∷ fs) fs))
  unfolding IsStrictlySortedBy
  sorted_one f fs true a h = (a, h)
  sorted_one f fs false a h = h

  sorted_left : (es : List (ℕ × X)) → IsStrictlySortedBy nat_cmp (map (λ e. e.0) es) → IsStrictlySortedBy nat_cmp (map (λ e. e.0) (filter (λ e. test e.1) es))
  unfolding IsStrictlySortedBy
  sorted_left [] h = h
  sorted_left (e ∷ es) h = sorted_one e (filter (λ e. test e.1) es) (test e.1) (below e.0 es h.0) (sorted_left es h.1)

  pub any_kept : (es : List (ℕ × X)) → IsStrictlySortedBy nat_cmp (map (λ e. e.0) es) → list_any test (map (λ e. e.1) es) ≡ nat_lt 0 (size (kept test (from_entries {R = nat_cmp} es)))
  any_kept es h =
      let fs = filter (λ (e : ℕ × X). test e.1) es in
      some_left es
      ∙ ap (nat_lt 0) (sym (len_rows nat_cmp_total fs (sorted_left es h)) ∙ ap size (rows_kept nat_cmp_total nat_cmp-IsAntisymmetric test es fs h refl))

  -- one of those that are left passes
  pub any_here : (left rest : List X) (x : X) → left ≡ x ∷ rest → test x ≡ true → list_any test left ≡ true
  any_here left rest x e t = ap (list_any test) e ∙ ap (λ b. b || list_any test rest) t
