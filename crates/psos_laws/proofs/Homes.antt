-- Each user object keeps its distinguished entry, whatever comes into a directory or goes.
use Rattle.std.proofs.Common.{◌≡◌, ℕ, true, false, cond, List, Option, Some, None, refl, sym, ap, ◌∙◌, ◌⊎◌, inl, inr}
use Rattle.std.specs.Prelude.{IsSome, is_some}
use Rattle.std.specs.Option.{option_map, option_and_then}
use Rattle.std.specs.Ordering.{eq_by_cmp, is_eq}
use Rattle.std.specs.declared.cmp.Ordering.{Ordering}
use Rattle.std.specs.declared.cmp.Ordering.TheVariants.{Less, Equal, Greater}
use Rattle.std.specs.FinMap.{get, insert, remove, get-insert, get-remove}
use Rattle.std.proofs.lemmas.Cmp.{eq_by_cmp_equiv}
use Rattle.std.proofs.lemmas.Bool.{cases_eq, false≢true, true≢false}
use Rattle.std.proofs.lemmas.Option.{same_Some, none-some}
use Rattle.psos_table.specs.Table.{Table, at, put, without, edit}
use Rattle.psos_table.proofs.Tables.{at-put_here, at-put_apart, at-edit_here, at-edit_apart, at-without_here, at-without_apart}
use Rattle.psos_caps.specs.Capability.{Capability}
use Rattle.psos_text.specs.declared.name.Name.{Name}
use Rattle.psos_calls.specs.declared.kind.Kind.{Kind}
use Rattle.psos_calls.specs.Language.Names.{name_cmp}
use Rattle.psos_calls.specs.Language.User.{User}
use Rattle.psos_model.specs.Flat.{Flat, Directory, Named, Names, named}
use Rattle.psos_model.specs.Flat.Changes.{with_entry, without_entry, kept_entry}
use Rattle.psos_model.specs.Sound.Kept.{IsKept, entry_in}
use Rattle.psos_model.proofs.NameOrder.{name_cmp_total, same_name}

-- ---- names

same_itself : (n : Name) → eq_by_cmp name_cmp n n ≡ true
same_itself n = (eq_by_cmp_equiv name_cmp_total).refl n

name_cases : (b n : Name) → (b ≡ n) ⊎ (b ≡ n → ⊥)
name_cases b n = by_order (name_cmp b n) refl
  where
    apart : eq_by_cmp name_cmp b n ≡ false → b ≡ n → ⊥
    apart differ same = true≢false (sym (same_itself n) ∙ (ap (λ z. eq_by_cmp name_cmp z n) (sym same) ∙ differ))

    by_order : (o : Ordering) → name_cmp b n ≡ o → (b ≡ n) ⊎ (b ≡ n → ⊥)
    by_order Equal is = inl (same_name b n is)
    by_order Less is = inr (apart (ap is_eq is))
    by_order Greater is = inr (apart (ap is_eq is))

differ : (b n : Name) → (b ≡ n → ⊥) → eq_by_cmp name_cmp b n ≡ false
differ b n apart = by_order (name_cmp b n) refl
  where
    by_order : (o : Ordering) → name_cmp b n ≡ o → eq_by_cmp name_cmp b n ≡ false
    by_order Equal is = absurd (apart (same_name b n is))
    by_order Less is = ap is_eq is
    by_order Greater is = ap is_eq is

module _ (m : Names) (n : Name) where
  put_here : (e : Named) → get (insert m n e) n ≡ Some e
  put_here e = get-insert name_cmp_total m n e n ∙ ap (λ b. cond b (Some e) (get m n)) (same_itself n)

  put_apart : (e : Named) (b : Name) → (b ≡ n → ⊥) → get (insert m n e) b ≡ get m b
  put_apart e b apart = get-insert name_cmp_total m n e b ∙ ap (λ q. cond q (Some e) (get m b)) (differ b n apart)

  gone_here : get (remove m n) n ≡ None
  gone_here = get-remove name_cmp_total m n n ∙ ap (λ b. cond b None (get m n)) (same_itself n)

  gone_apart : (b : Name) → (b ≡ n → ⊥) → get (remove m n) b ≡ get m b
  gone_apart b apart = get-remove name_cmp_total m n b ∙ ap (λ q. cond q None (get m b)) (differ b n apart)

-- ---- what a name stands for, after an entry comes or goes

abbrev pub name_in : Option Directory → Name → Option Named
name_in o name = option_and_then (λ (x : Directory). named x name) o

module _ (t : Table Directory) (d : ℕ) (n : Name) where
  entry_here : (e : Named) (x : Directory) → at t d ≡ Some x → name_in (at (edit t d (with_entry n e)) d) n ≡ Some e
  entry_here e x is = ap (λ o. name_in o n) (at-edit_here t d (with_entry n e) ∙ ap (option_map (with_entry n e)) is) ∙ put_here x.names n e

  entry_apart : (e : Named) (a : ℕ) (b : Name) → (a ≡ d → b ≡ n → ⊥) → name_in (at (edit t d (with_entry n e)) a) b ≡ name_in (at t a) b
  entry_apart e a b apart = elim (cases_eq a d) [
    | inl same ↦
        ap (λ (k : ℕ). name_in (at (edit t d (with_entry n e)) k) b) same ∙ (ap (λ o. name_in o b) (at-edit_here t d (with_entry n e)) ∙ (by_dir (at t d) (apart same) ∙ ap (λ (k : ℕ). name_in (at t k) b) (sym same)))
    | inr other ↦ ap (λ o. name_in o b) (at-edit_apart t d (with_entry n e) a other)
  ]
    where
      by_dir : (o : Option Directory) → (b ≡ n → ⊥) → name_in (option_map (with_entry n e) o) b ≡ name_in o b
      by_dir None off = refl
      by_dir (Some x) off = put_apart x.names n e b off

  -- an entry is the new one, or was there
  entry_back : (e : Named) (a : ℕ) (b : Name) (g : Named) → name_in (at (edit t d (with_entry n e)) a) b ≡ Some g
      → ((a ≡ d) × (b ≡ n) × (g ≡ e)) ⊎ ((a ≡ d → b ≡ n → ⊥) × (name_in (at t a) b ≡ Some g))
  entry_back e a b g is = elim (cases_eq a d) [
    | inl same ↦ elim (name_cases b n) [
      | inl here ↦ by_dir (at t d) refl same here (ap (λ o. name_in o n) (sym (at-edit_here t d (with_entry n e))) ∙ (ap (λ z. name_in (at (edit t d (with_entry n e)) d) z) (sym here) ∙ (ap (λ (k : ℕ). name_in (at (edit t d (with_entry n e)) k) b) (sym same) ∙ is)))
      | inr off ↦ inr (λ p q. off q, sym (entry_apart e a b (λ p q. off q)) ∙ is)
    ]
    | inr other ↦ inr (λ p q. other p, sym (entry_apart e a b (λ p q. other p)) ∙ is)
  ]
    where
      by_dir : (o : Option Directory) → at t d ≡ o → a ≡ d → b ≡ n → name_in (option_map (with_entry n e) o) n ≡ Some g
          → ((a ≡ d) × (b ≡ n) × (g ≡ e)) ⊎ ((a ≡ d → b ≡ n → ⊥) × (name_in (at t a) b ≡ Some g))
      by_dir None row same here found = absurd (none-some g found)
      by_dir (Some x) row same here found = inl (same, here, same_Some g e (sym found ∙ put_here x.names n e))

  entry_gone_apart : (a : ℕ) (b : Name) → (a ≡ d → b ≡ n → ⊥) → name_in (at (edit t d (without_entry n)) a) b ≡ name_in (at t a) b
  entry_gone_apart a b apart = elim (cases_eq a d) [
    | inl same ↦
        ap (λ (k : ℕ). name_in (at (edit t d (without_entry n)) k) b) same ∙ (ap (λ o. name_in o b) (at-edit_here t d (without_entry n)) ∙ (by_dir (at t d) (apart same) ∙ ap (λ (k : ℕ). name_in (at t k) b) (sym same)))
    | inr other ↦ ap (λ o. name_in o b) (at-edit_apart t d (without_entry n) a other)
  ]
    where
      by_dir : (o : Option Directory) → (b ≡ n → ⊥) → name_in (option_map (without_entry n) o) b ≡ name_in o b
      by_dir None off = refl
      by_dir (Some x) off = gone_apart x.names n b off

  -- an entry that is left was there, and is another one
  entry_left : (a : ℕ) (b : Name) (g : Named) → name_in (at (edit t d (without_entry n)) a) b ≡ Some g → (a ≡ d → b ≡ n → ⊥) × (name_in (at t a) b ≡ Some g)
  entry_left a b g is = elim (cases_eq a d) [
    | inl same ↦ elim (name_cases b n) [
      | inl here ↦ absurd (by_dir (at t d) (ap (λ o. name_in o n) (sym (at-edit_here t d (without_entry n))) ∙ (ap (λ z. name_in (at (edit t d (without_entry n)) d) z) (sym here) ∙ (ap (λ (k : ℕ). name_in (at (edit t d (without_entry n)) k) b) (sym same) ∙ is))))
      | inr off ↦ (λ p q. off q, sym (entry_gone_apart a b (λ p q. off q)) ∙ is)
    ]
    | inr other ↦ (λ p q. other p, sym (entry_gone_apart a b (λ p q. other p)) ∙ is)
  ]
    where
      by_dir : (o : Option Directory) → name_in (option_map (without_entry n) o) n ≡ Some g → ⊥
      by_dir None found = none-some g found
      by_dir (Some x) found = none-some g (sym (gone_here x.names n) ∙ found)

-- ---- distinguished entries

-- where each name stands for what it stood for, and the same is told of
pub kept_on : (home : ℕ → ℕ × Name) (f g : Flat) → ((d : ℕ) (n : Name) → entry_in g d n ≡ entry_in f d n) → ((o : ℕ) → at g.life o ≡ at f.life o) → IsKept home f → IsKept home g
kept_on home f g entries life h = record {
  has_entry = λ o kind is. entries (home o).0 (home o).1 ∙ h.has_entry o kind (sym (life o) ∙ is);
  no_other = λ d n e is kept.
      let was = h.no_other d n e (sym (entries d n) ∙ is) kept in
      (was.0, ap is_some (life e.cap.uid) ∙ was.1, was.2);
}

-- more identifiers have homes
pub kept_raised : (home new : ℕ → ℕ × Name) (f : Flat) (n : ℕ) (us : List User) → ((o : ℕ) → IsSome (at f.life o) → new o ≡ home o) → IsKept home f → IsKept new (record f { next = n; users = us })
kept_raised home new f n us same h = record {
  has_entry = λ o kind is. ap (λ (p : ℕ × Name). entry_in f p.0 p.1) (same o (ap is_some is)) ∙ h.has_entry o kind is;
  no_other = λ d n e is kept. let was = h.no_other d n e is kept in (was.0, was.1, same e.cap.uid was.1 ∙ was.2);
}

module _ (home : ℕ → ℕ × Name) (f : Flat) (h : IsKept home f) (d : ℕ) (n : Name) where
  -- what stands at the home of an object, if that is the name n in d
  at_name : (o : ℕ) (kind : Kind) → at f.life o ≡ Some kind → (home o).0 ≡ d → (home o).1 ≡ n → entry_in f d n ≡ Some (kept_entry o)
  at_name o kind is p q = ap (λ (k : ℕ). entry_in f k n) (sym p) ∙ (ap (entry_in f (home o).0) (sym q) ∙ h.has_entry o kind is)

  pub kept_bind : (cap : Capability) → entry_in f d n ≡ None → IsKept home (record f { dirs = edit f.dirs d (with_entry n (record { cap = cap; kept = false })) })
  kept_bind cap none = record {
    has_entry = λ o kind is. entry_apart f.dirs d n (record { cap = cap; kept = false }) (home o).0 (home o).1 (λ p q. none-some (kept_entry o) (sym none ∙ at_name o kind is p q)) ∙ h.has_entry o kind is;
    no_other = λ a b e is kept. elim (entry_back f.dirs d n (record { cap = cap; kept = false }) a b e is) [
      | inl new ↦ absurd (false≢true (ap (λ (z : Named). z.kept) (sym new.2) ∙ kept))
      | inr old ↦ h.no_other a b e old.1 kept
    ];
  }

  pub kept_unbind : ((e : Named) → entry_in f d n ≡ Some e → e.kept ≡ false) → IsKept home (record f { dirs = edit f.dirs d (without_entry n) })
  kept_unbind plain = record {
    has_entry = λ o kind is. entry_gone_apart f.dirs d n (home o).0 (home o).1 (λ p q. false≢true (sym (plain (kept_entry o) (at_name o kind is p q)))) ∙ h.has_entry o kind is;
    no_other = λ a b e is kept. h.no_other a b e (entry_left f.dirs d n a b e is).1 kept;
  }

  pub kept_register : (o : ℕ) (kind : Kind) (x : Directory) → at f.dirs d ≡ Some x → entry_in f d n ≡ None → at f.life o ≡ None → home o ≡ (d, n)
      → IsKept home (record f { dirs = edit f.dirs d (with_entry n (kept_entry o)); life = put f.life o kind })
  kept_register o kind x live none new at_home = record {
    has_entry = λ v j is. elim (cases_eq v o) [
      | inl same ↦
          ap (λ (p : ℕ × Name). name_in (at (edit f.dirs d (with_entry n (kept_entry o))) p.0) p.1) (ap home same ∙ at_home)
          ∙ (entry_here f.dirs d n (kept_entry o) x live ∙ ap (λ (k : ℕ). Some (kept_entry k)) (sym same))
      | inr apart ↦
          let was : at f.life v ≡ Some j = sym (at-put_apart f.life o kind v apart) ∙ is in
          entry_apart f.dirs d n (kept_entry o) (home v).0 (home v).1 (λ p q. none-some (kept_entry v) (sym none ∙ at_name v j was p q)) ∙ h.has_entry v j was
    ];
    no_other = λ a b e is kept. elim (entry_back f.dirs d n (kept_entry o) a b e is) [
      | inl here ↦
          let uid : e.cap.uid ≡ o = ap (λ (z : Named). z.cap.uid) here.2 in (
            here.2 ∙ ap kept_entry (sym uid),
            ap (λ (k : ℕ). is_some (at (put f.life o kind) k)) uid ∙ ap is_some (at-put_here f.life o kind),
            ap home uid ∙ (at_home ∙ (ap (λ (k : ℕ). (k, n)) (sym here.0) ∙ ap (λ (m : Name). (a, m)) (sym here.1))),
          )
      | inr old ↦
          let was = h.no_other a b e old.1 kept in
          let apart : e.cap.uid ≡ o → ⊥ = λ same. false≢true (sym (ap is_some new) ∙ (ap (λ (k : ℕ). is_some (at f.life k)) (sym same) ∙ was.1)) in
          (was.0, ap is_some (at-put_apart f.life o kind e.cap.uid apart) ∙ was.1, was.2)
    ];
  }

  pub kept_unregister : (o : ℕ) → entry_in f d n ≡ Some (kept_entry o) → IsKept home (record f { dirs = edit f.dirs d (without_entry n); life = without f.life o })
  kept_unregister o there =
      let at_home : home o ≡ (d, n) = (h.no_other d n (kept_entry o) there refl).2 in
      record {
        has_entry = λ v j is. elim (cases_eq v o) [
          | inl same ↦ absurd (none-some j (sym (at-without_here f.life o) ∙ (ap (at (without f.life o)) (sym same) ∙ is)))
          | inr apart ↦
              let was : at f.life v ≡ Some j = sym (at-without_apart f.life o v apart) ∙ is in
              entry_gone_apart f.dirs d n (home v).0 (home v).1
              (λ p q. apart (ap (λ (z : Named). z.cap.uid) (same_Some (kept_entry v) (kept_entry o) (sym (at_name v j was p q) ∙ there))))
              ∙ h.has_entry v j was
        ];
        no_other = λ a b e is kept.
            let old = entry_left f.dirs d n a b e is in
            let was = h.no_other a b e old.1 kept in
            let apart : e.cap.uid ≡ o → ⊥ = λ same.
            let place : (a, b) ≡ (d, n) = sym was.2 ∙ (ap home same ∙ at_home) in
            old.0 (ap (λ (p : ℕ × Name). p.0) place) (ap (λ (p : ℕ × Name). p.1) place) in
            (was.0, ap is_some (at-without_apart f.life o e.cap.uid apart) ∙ was.1, was.2);
      }
