-- Counts by class stay those of the rows.
use Rattle.std.proofs.Common.{◌≡◌, ℕ, zero, suc, ◌+◌, ◌-◌, ◌<◌, ◌≤◌, Bool, true, false, cond, Option, Some, None, refl, sym, ap, subst, ◌∙◌, inl, inr, arith}
use Rattle.std.specs.Ordering.{nat_cmp}
use Rattle.std.specs.Prelude.{not, nat_le, ◌==◌}
use Rattle.std.specs.Option.{option_map}
use Rattle.std.specs.FinMap.{empty}
use Rattle.std.proofs.lemmas.Bool.{eq-eqb, eqb-true, ne_eqb, cases_eq}
use Rattle.std.proofs.lemmas.Bool.Decides.{nat_tests}
use Rattle.psos_table.specs.Table.{Table, at, size, put, without, kept, edit}
use Rattle.psos_table.proofs.Tables.{at-empty, at-put_here, at-put_apart, at-without_here, at-without_apart, at-edit_here, at-edit_apart, same_table, size-empty, size-kept}
use Rattle.psos_counts.specs.Counted.{is_class, is_of_class, is_apart, counted, or_zero, count_in, one_fewer, AreCounts}
use Rattle.psos_counts.proofs.RowCounts.{kept_within, kept_apart, kept_empty, kept_all, size-kept_put, size-kept_put_apart, size-kept_without, size-kept_without_apart}

counted_some : (n : ℕ) → 0 < n → counted n ≡ Some n
counted_some n p =
    let other : (n == 0) ≡ false = grind (arith, nat_tests) in
    ap (λ b. cond b None (Some n)) other

or_zero-counted : (n : ℕ) → or_zero (counted n) ≡ n
or_zero-counted zero = refl
or_zero-counted (suc n) = ap or_zero (counted_some (suc n) (omega arith))

-- what is apart from a class is not of it
apart_fails : (b : Bool) → not b ≡ true → b ≡ false
apart_fails true e = absurd (cc e)
apart_fails false e = refl

-- a row of one class is apart from each other
other_class : (c d : ℕ) → (c ≡ d → ⊥) → (o : Option ℕ) → is_class c o ≡ true → not (is_class d o) ≡ true
other_class c d apart None e = refl
other_class c d apart (Some j) e = ap not (ne_eqb j d (λ same. apart (sym (eqb-true j c e) ∙ same)))

-- to take out what is not there changes nothing
without_absent : {X : Type 0} (m : Table X) (k : ℕ) → at m k ≡ None → without m k ≡ m
without_absent m k gone = same_table _ _ (λ q. elim (cases_eq q k) [
  | inl same ↦ ap (at (without m k)) same ∙ (at-without_here m k ∙ (sym gone ∙ sym (ap (at m) same)))
  | inr apart ↦ at-without_apart m k q apart
])

module _ {X : Type 0} {class : X → Option ℕ} {m : Table X} {n : Table ℕ} (are : AreCounts class m n) where
  -- the count that is kept is that of the rows
  pub count_is : (c : ℕ) → count_in n c ≡ size (kept (is_of_class class c) m)
  count_is c = ap or_zero (are.each c) ∙ or_zero-counted (size (kept (is_of_class class c) m))

  -- no class has more rows than there are
  pub count_most : (c : ℕ) → count_in n c ≤ size m
  count_most c = subst (λ k. k ≤ size m) (sym (count_is c)) (size-kept (is_of_class class c) m)

  -- a new row of a class counts there
  pub counts_put : (k : ℕ) (x : X) (d : ℕ) → at m k ≡ None → class x ≡ Some d → AreCounts class (put m k x) (put n d (count_in n d + 1))
  counts_put k x d new is = record {
    each = λ c. elim (cases_eq c d) [
      | inl same ↦
          let passes : is_of_class class d x ≡ true = ap (is_class d) is ∙ eq-eqb d d refl in
          let more : size (kept (is_of_class class d) (put m k x)) ≡ count_in n d + 1 = size-kept_put (is_of_class class d) m k x new passes ∙ ap (λ s. s + 1) (sym (count_is d)) in
          subst (λ e. at (put n d (count_in n d + 1)) e ≡ counted (size (kept (is_of_class class e) (put m k x)))) (sym same)
          (at-put_here n d (count_in n d + 1) ∙ (sym (counted_some (count_in n d + 1) (omega arith)) ∙ ap counted (sym more)))
      | inr apart ↦
          let fails : is_of_class class c x ≡ false = ap (is_class c) is ∙ ne_eqb d c (λ e. apart (sym e)) in
          at-put_apart n d (count_in n d + 1) c apart ∙ (are.each c ∙ ap counted (sym (size-kept_put_apart (is_of_class class c) m k x new fails)))
    ];
  }

  -- a new row of no class counts nowhere
  pub counts_put_none : (k : ℕ) (x : X) → at m k ≡ None → class x ≡ None → AreCounts class (put m k x) n
  counts_put_none k x new is = record {
    each = λ c. are.each c ∙ ap counted (sym (size-kept_put_apart (is_of_class class c) m k x new (ap (is_class c) is)));
  }

  -- a row of a class that goes counts there no more
  pub counts_gone : (k : ℕ) (x : X) (d : ℕ) → at m k ≡ Some x → class x ≡ Some d → AreCounts class (without m k) (one_fewer n d)
  counts_gone k x d there is = record {
    each = λ c. elim (cases_eq c d) [
      | inl same ↦ subst (λ e. at (one_fewer n d) e ≡ counted (size (kept (is_of_class class e) (without m k)))) (sym same) here
      | inr apart ↦
          let fails : is_of_class class c x ≡ false = ap (is_class c) is ∙ ne_eqb d c (λ e. apart (sym e)) in
          elsewhere c apart (nat_le (count_in n d) 1) ∙ (are.each c ∙ ap counted (sym (size-kept_without_apart (is_of_class class c) m k x there fails)))
    ];
  }
    where
      less : ℕ → ℕ
      less j = j - 1

      fewer : size (kept (is_of_class class d) (without m k)) + 1 ≡ count_in n d
      fewer = size-kept_without (is_of_class class d) m k x there (ap (is_class d) is ∙ eq-eqb d d refl) ∙ sym (count_is d)

      by_count : (b : Bool) → nat_le (count_in n d) 1 ≡ b → at (cond b (without n d) (edit n d less)) d ≡ counted (size (kept (is_of_class class d) (without m k)))
      by_count true e =
          let zero_left : size (kept (is_of_class class d) (without m k)) ≡ 0 = grind (arith, nat_tests, fewer, e) in
          at-without_here n d ∙ sym (ap counted zero_left)
      by_count false e =
          let some_left : 0 < size (kept (is_of_class class d) (without m k)) = grind (arith, nat_tests, fewer, e) in
          let was : at n d ≡ Some (size (kept (is_of_class class d) m)) = are.each d ∙ counted_some (size (kept (is_of_class class d) m)) (omega (arith, fewer, some_left, count_is d)) in
          let now : less (size (kept (is_of_class class d) m)) ≡ size (kept (is_of_class class d) (without m k)) = omega (arith, fewer, count_is d) in
          at-edit_here n d less ∙ (ap (option_map less) was ∙ (ap Some now ∙ sym (counted_some _ some_left)))

      here : at (one_fewer n d) d ≡ counted (size (kept (is_of_class class d) (without m k)))
      here = by_count (nat_le (count_in n d) 1) refl

      elsewhere : (c : ℕ) → (c ≡ d → ⊥) → (b : Bool) → at (cond b (without n d) (edit n d less)) c ≡ at n c
      elsewhere c apart true = at-without_apart n d c apart
      elsewhere c apart false = at-edit_apart n d less c apart

  -- a row of no class that goes counts nowhere
  pub counts_gone_none : (k : ℕ) (x : X) → at m k ≡ Some x → class x ≡ None → AreCounts class (without m k) n
  counts_gone_none k x there is = record {
    each = λ c. are.each c ∙ ap counted (sym (size-kept_without_apart (is_of_class class c) m k x there (ap (is_class c) is)));
  }

  -- no row under the number
  pub counts_gone_absent : (k : ℕ) → at m k ≡ None → AreCounts class (without m k) n
  counts_gone_absent k gone = subst (λ (r : Table X). AreCounts class r n) (sym (without_absent m k gone)) are

  -- a class goes with its count
  pub counts_dropped : (d : ℕ) → AreCounts class (kept (is_apart class d) m) (without n d)
  counts_dropped d = record {
    each = λ c. elim (cases_eq c d) [
      | inl same ↦
          let none : size (kept (is_of_class class d) (kept (is_apart class d) m)) ≡ 0 = ap size (kept_apart (is_of_class class d) (is_apart class d) m (λ x e. apart_fails (is_of_class class d x) e)) ∙ size-empty X in
          subst (λ e. at (without n d) e ≡ counted (size (kept (is_of_class class e) (kept (is_apart class d) m)))) (sym same)
          (at-without_here n d ∙ sym (ap counted none))
      | inr apart ↦
          at-without_apart n d c apart ∙ (are.each c ∙ ap (λ r. counted (size r)) (sym (kept_within (is_of_class class c) (is_apart class d) m (λ x e. other_class c d apart (class x) e))))
    ];
  }

  -- a class with no row has none to drop
  pub none_to_drop : (d : ℕ) → size (kept (is_of_class class d) m) ≡ 0 → kept (is_apart class d) m ≡ m
  none_to_drop d none = kept_all (is_of_class class d) (is_apart class d) m (λ x e. ap not e) none

-- no row has no counts
pub counts_empty : {X : Type 0} (class : X → Option ℕ) → AreCounts class (empty {X = X} {R = nat_cmp}) empty
counts_empty {X} class = record {
  each = λ c. at-empty c ∙ sym (ap counted (ap size (kept_empty (is_of_class class c)) ∙ size-empty X));
}

-- a row that was put under a new number and goes again leaves the table as it was
pub put_and_gone : {X : Type 0} (m : Table X) (k : ℕ) (x : X) → at m k ≡ None → without (put m k x) k ≡ m
put_and_gone m k x new = same_table _ _ (λ q. elim (cases_eq q k) [
  | inl same ↦ ap (at (without (put m k x) k)) same ∙ (at-without_here (put m k x) k ∙ (sym new ∙ sym (ap (at m) same)))
  | inr apart ↦ at-without_apart (put m k x) k q apart ∙ at-put_apart m k x q apart
])

-- the same, where the tables between have names
pub undone : {X : Type 0} (m p r : Table X) (k : ℕ) (x : X) → at m k ≡ None → p ≡ put m k x → r ≡ without p k → r ≡ m
undone m p r k x new was is = is ∙ (ap (λ (t : Table _). without t k) was ∙ put_and_gone m k x new)
