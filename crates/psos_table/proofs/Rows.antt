-- The finite map that the entries of a `BTreeMap` make, in any order of the keys.
use Rattle.std.proofs.Common.{◌≡◌, ℕ, ◌+◌, Bool, true, false, cond, List, [], ◌∷◌, length, Option, Some, None, refl, sym, ap, subst, ◌∙◌, arith}
use Rattle.std.specs.Ordering.{nat_cmp, is_eq}
use Rattle.std.specs.declared.cmp.Ordering.{Ordering}
use Rattle.std.specs.declared.cmp.Ordering.TheVariants.{Less}
use Rattle.std.specs.Prelude.{map, is_some, IsSome, Result, Ok, Err, OnErr}
use Rattle.std.specs.List.{AllByRecursion, filter}
use Rattle.std.specs.List.Sorted.{IsStrictlySortedBy}
use Rattle.std.specs.Cmp.{IsTotalOrder, nat_cmp_total}
use Rattle.std.specs.Map.{lookup, set_value}
use Rattle.std.specs.BTreeMap.{BTreeMap, WritesThrough, get_by, is_at}
use Rattle.std.specs.FinMap.{FinMap, IsAntisymmetric, find, get, insert, remove, retain_keys, from_entries, get-from_entries, get-insert, get-remove, get-retain_keys, get_tied, len, len-empty, len-insert, same_map, nat_cmp-IsAntisymmetric}
use Rattle.std.proofs.lemmas.Cmp.{eq_by_cmp_equiv}
use Rattle.std.proofs.lemmas.Map.Entries.{lookup-filter-values, option_filter}
use Rattle.std.proofs.lemmas.Map.Keys.{IsDistinct-from_sorted}
use Rattle.std.proofs.lemmas.Option.{none-some}
use Rattle.psos_table.specs.Table.{at, edit, edited, passes}

module _ {K V : Type 0} {R : K → K → Ordering} (o : IsTotalOrder R) where
  -- a scan of the entries is a look-up
  find-lookup : (es : List (K × V)) (q : K) → find R q es ≡ lookup (is_at (R q)) es
  find-lookup [] q = refl
  find-lookup (e ∷ es) q = ap (cond (is_at (R q) e.0) (Some e.1)) (find-lookup es q)

  -- what the map has at a key is what a look-up finds
  pub get_rows : (es : List (K × V)) (q : K) → get (from_entries {R = R} es) q ≡ lookup (is_at (R q)) es
  get_rows es q = get-from_entries o es q ∙ find-lookup es q

  -- what a map has at a key once the rows that fail a test are gone
  pub get_kept : (test : V → Bool) (m : FinMap R V) (q : K) → get (retain_keys m (λ k. passes test (get m k))) q ≡ option_filter test (get m q)
  get_kept test m q = get-retain_keys m (λ k. passes test (get m k)) q (λ x e. ap (passes test) (get_tied o m q x e)) ∙ by_value (get m q)
    where
      by_value : (r : Option V) → cond (passes test r) r None ≡ option_filter test r
      by_value None = refl
      by_value (Some x) = refl

  -- a key below all others is new
  none_above : (k : K) (es : List (K × V)) → AllByRecursion (λ y. R k y ≡ Less) (map (λ e. e.0) es) → find R k es ≡ None
  none_above k [] h = refl
  none_above k (e ∷ es) h = ap (λ r. cond (is_eq r) (Some e.1) (find R k es)) h.0 ∙ none_above k es h.1

  -- as many rows as entries
  pub len_rows : (es : List (K × V)) → IsStrictlySortedBy R (map (λ e. e.0) es) → len (from_entries {R = R} es) ≡ length es
  unfolding IsStrictlySortedBy
  len_rows [] h = len-empty R V
  len_rows (e ∷ es) h =
      let new : get (from_entries {R = R} es) e.0 ≡ None = get-from_entries o es e.0 ∙ none_above e.0 es h.0 in
      len-insert o (from_entries es) e.0 e.1 ∙ ap (λ r. cond (is_some r) (len (from_entries {R = R} es)) (len (from_entries {R = R} es) + 1)) new ∙ ap (λ n. n + 1) (len_rows es h.1) ∙ omega arith

module _ {K V : Type 0} {R : K → K → Ordering} (o : IsTotalOrder R) (same : IsAntisymmetric R) where
  -- entries that have a value at one key, and are else alike, make maps of which one has it inserted
  pub one_put : (es fs : List (K × V)) (k : K) (v : V)
      → ((q : K) → lookup (is_at (R q)) fs ≡ cond (is_at (R k) q) (Some v) (lookup (is_at (R q)) es))
      → from_entries {R = R} fs ≡ insert (from_entries es) k v
  one_put es fs k v h = same_map o same _ _ (λ q.
      get_rows o fs q ∙ h q ∙ ap (λ b. cond b (Some v) (lookup (is_at (R q)) es)) ((eq_by_cmp_equiv o).symm k q)
      ∙ sym (get-insert o (from_entries es) k v q ∙ ap (cond (is_at (R q) k) (Some v)) (get_rows o es q)))

  -- entries that lack one key, and are else alike, make maps of which one has it removed
  pub one_gone : (es fs : List (K × V)) (k : K)
      → ((q : K) → lookup (is_at (R q)) fs ≡ cond (is_at (R k) q) None (lookup (is_at (R q)) es))
      → from_entries {R = R} fs ≡ remove (from_entries es) k
  one_gone es fs k h = same_map o same _ _ (λ q.
      get_rows o fs q ∙ h q ∙ ap (λ b. cond b None (lookup (is_at (R q)) es)) ((eq_by_cmp_equiv o).symm k q)
      ∙ sym (get-remove o (from_entries es) k q ∙ ap (cond (is_at (R q) k) None) (get_rows o es q)))

  -- the entries that pass a test make the map of the rows that pass
  pub rows_kept : (test : V → Bool) (es fs : List (K × V)) → IsStrictlySortedBy R (map (λ e. e.0) es) → fs ≡ filter (λ e. test e.1) es
      → from_entries {R = R} fs ≡ retain_keys (from_entries es) (λ k. passes test (get (from_entries {R = R} es) k))
  rows_kept test es fs sorted is = same_map o same _ _ (λ q.
      get_rows o fs q ∙ ap (lookup (is_at (R q))) is
      ∙ lookup-filter-values (eq_by_cmp_equiv o) test q es (IsDistinct-from_sorted R _ sorted)
      ∙ ap (option_filter test) (sym (get_rows o es q))
      ∙ sym (get_kept o test (from_entries es) q))

-- a fact that holds, holds at an error
pub on_err_from : {T E P : Type 0} (r : Result T E) → P → OnErr r P
on_err_from (Ok x) p = tt
on_err_from (Err e) p = p

-- to write at a key that is not there changes nothing
pub set_value-absent : {K V : Type 0} (test : K → Bool) (es : List (K × V)) (w : V) → lookup test es ≡ None → set_value test es w ≡ es
set_value-absent test [] w e = refl
set_value-absent {K} {V} test (x ∷ es) w e = by_test (set_value-absent test es w) (test x.0) e
  where
    by_test : (lookup test es ≡ None → set_value test es w ≡ es) → (b : Bool) → cond b (Some x.1) (lookup test es) ≡ None → cond b ((x.0, w) ∷ es) (x ∷ set_value test es w) ≡ x ∷ es
    by_test rest true h = absurd (none-some x.1 (sym h))
    by_test rest false h = ap (λ (l : List (K × V)). x ∷ l) (rest h)

-- entries with a value written at one key make the map with the row there changed
pub row_written : {V : Type 0} (m n : BTreeMap ℕ V) (k : ℕ) (w : V) → WritesThrough nat_cmp (nat_cmp k) m w n → from_entries {R = nat_cmp} n.entries ≡ edit (from_entries m.entries) k (λ _. w)
row_written {V} m n k w h = by_row (at (from_entries m.entries) k) refl
  where
    found : at (from_entries m.entries) k ≡ get_by (nat_cmp k) m
    found = get_rows nat_cmp_total m.entries k

    by_row : (o : Option V) → at (from_entries m.entries) k ≡ o → from_entries {R = nat_cmp} n.entries ≡ edited (from_entries m.entries) k (λ _. w) o
    by_row None e = ap (λ (l : List (ℕ × V)). from_entries {R = nat_cmp} l) (h.0 ∙ set_value-absent (is_at (nat_cmp k)) m.entries w (sym found ∙ e))
    by_row (Some x) e = one_put nat_cmp_total nat_cmp-IsAntisymmetric m.entries n.entries k w (h.3 (subst IsSome (sym e ∙ found) refl)).0
