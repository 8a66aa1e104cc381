-- A row or an entry that is put, and then put back as it was.
use Rattle.std.proofs.Common.{◌≡◌, ℕ, Bool, true, false, cond, Option, Some, None, refl, sym, ap, subst, ◌∙◌}
use Rattle.std.specs.Prelude.{⊤, Result, Ok, Err, OnErr}
use Rattle.std.specs.Ordering.{is_eq, eq_by_cmp}
use Rattle.std.specs.declared.cmp.Ordering.{Ordering}
use Rattle.std.specs.declared.cmp.Ordering.TheVariants.{Less, Equal, Greater}
use Rattle.std.specs.Cmp.{IsTotalOrder, nat_cmp_total}
use Rattle.std.specs.FinMap.{FinMap, IsAntisymmetric, get, insert, remove, get_tied, get-insert, get-remove, same_map, nat_cmp-IsAntisymmetric}
use Rattle.std.specs.Option.{option_and_then}
use Rattle.psos_table.specs.Table.{Table, at, put, edit}
use Rattle.psos_table.proofs.Tables.{edit_some, edit_none, at-put_here}
use Rattle.psos_text.specs.declared.name.Name.{Name}
use Rattle.psos_model.specs.Flat.{Directory, Named, Names, named}
use Rattle.psos_model.specs.Flat.Changes.{with_entry}
use Rattle.psos_model.specs.Flat.Undo.{put_back, entry_back, entry_at}
use Rattle.psos_model.proofs.NameOrder.{name_cmp_total, same_name}

tie : (r : Ordering) → is_eq r ≡ true → r ≡ Equal
tie Less e = absurd (subst (λ b. cond b ⊥ ⊤) e tt)
tie Equal e = refl
tie Greater e = absurd (subst (λ b. cond b ⊥ ⊤) e tt)

module _ {K X : Type 0} {R : K → K → Ordering} (o : IsTotalOrder R) (same : IsAntisymmetric R) (m : FinMap R X) (k : K) where
  -- what is read at a key that ties with k
  tied : (q : K) (was : Option X) → get m k ≡ was → eq_by_cmp R q k ≡ true → was ≡ get m q
  tied q was e t = sym e ∙ get_tied o m q k (tie (R q k) t)

  picked : (q : K) (x : X) (was : Option X) → get m k ≡ was → (b : Bool) → eq_by_cmp R q k ≡ b → cond b was (get (insert m k x) q) ≡ get m q
  picked q x was e true t = tied q was e t
  picked q x was e false t = get-insert o m k x q ∙ ap (λ b. cond b (Some x) (get m q)) t

  pub removed_back : (x : X) → get m k ≡ None → remove (insert m k x) k ≡ m
  removed_back x e = same_map o same (remove (insert m k x) k) m (λ q. get-remove o (insert m k x) k q ∙ picked q x None e (eq_by_cmp R q k) refl)

  pub inserted_back : (x y : X) → get m k ≡ Some y → insert (insert m k x) k y ≡ m
  inserted_back x y e = same_map o same (insert (insert m k x) k y) m (λ q. get-insert o (insert m k x) k y q ∙ picked q x (Some y) e (eq_by_cmp R q k) refl)

  kept_here : (q : K) (y : X) → get m k ≡ Some y → (b : Bool) → eq_by_cmp R q k ≡ b → cond b (Some y) (get m q) ≡ get m q
  kept_here q y e true t = tied q (Some y) e t
  kept_here q y e false t = refl

  pub inserted_same : (y : X) → get m k ≡ Some y → insert m k y ≡ m
  inserted_same y e = same_map o same (insert m k y) m (λ q. get-insert o m k y q ∙ kept_here q y e (eq_by_cmp R q k) refl)

-- a row that is changed to itself
pub edit_same : {X : Type 0} (m : Table X) (k : ℕ) (x : X) → at m k ≡ Some x → edit m k (λ _. x) ≡ m
edit_same m k x e = edit_some m k (λ _. x) x e ∙ inserted_same nat_cmp_total nat_cmp-IsAntisymmetric m k x e

-- a row that was put is put back
pub put_back_is : {X : Type 0} (m : Table X) (k : ℕ) (x : X) → put_back (put m k x) k (at m k) ≡ m
put_back_is {X} m k x = by_row (at m k) refl
  where
    by_row : (was : Option X) → at m k ≡ was → put_back (put m k x) k was ≡ m
    by_row None e = removed_back nat_cmp_total nat_cmp-IsAntisymmetric m k x e
    by_row (Some y) e = inserted_back nat_cmp_total nat_cmp-IsAntisymmetric m k x y e

abbrev pub renamed : Directory → Names → Directory
renamed d names = record d { names = names }

-- a directory's entry that was put is put back
entry_of : (d : Directory) (name : Name) (e : Named) → entry_back name (named d name) (with_entry name e d) ≡ d
entry_of d name e = by_entry (named d name) refl
  where
    by_entry : (was : Option Named) → named d name ≡ was → entry_back name was (with_entry name e d) ≡ d
    by_entry None is = ap (renamed d) (removed_back name_cmp_total same_name d.names name e is)
    by_entry (Some y) is = ap (renamed d) (inserted_back name_cmp_total same_name d.names name e y is)

pub entry_back_is : (m : Table Directory) (u : ℕ) (name : Name) (e : Named) → edit (edit m u (with_entry name e)) u (entry_back name (entry_at m u name)) ≡ m
entry_back_is m u name e = by_row (at m u) refl
  where
    by_row : (o : Option Directory) → at m u ≡ o → edit (edit m u (with_entry name e)) u (entry_back name (entry_at m u name)) ≡ m
    by_row None is = ap (λ t. edit t u (entry_back name (entry_at m u name))) (edit_none m u (with_entry name e) is) ∙ edit_none m u (entry_back name (entry_at m u name)) is
    by_row (Some d) is =
        let g = entry_back name (entry_at m u name) in
        let n = put m u (with_entry name e d) in
        let was : entry_at m u name ≡ named d name = ap (λ (o : Option Directory). option_and_then (λ (d : Directory). named d name) o) is in
        let row : g (with_entry name e d) ≡ d = ap (λ w. entry_back name w (with_entry name e d)) was ∙ entry_of d name e in
        ap (λ t. edit t u g) (edit_some m u (with_entry name e) d is)
        ∙ edit_some n u g (with_entry name e d) (at-put_here m u (with_entry name e d))
        ∙ ap (put n u) row
        ∙ inserted_back nat_cmp_total nat_cmp-IsAntisymmetric m u (with_entry name e d) d is

-- what follows from a fact that holds at an error, holds there too
pub on_err : {T E P Q : Type 0} (r : Result T E) → (P → Q) → OnErr r P → OnErr r Q
on_err (Ok x) f h = tt
on_err (Err e) f h = f h
