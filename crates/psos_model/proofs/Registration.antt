-- A user object that is told of, before what makes it, and how that is taken back.
use Rattle.std.proofs.Common.{◌≡◌, ℕ, true, false, cond, eqb, Option, Some, None, refl, sym, ap, subst, ◌∙◌, ◌⊎◌, inl, inr}
use Rattle.std.specs.Prelude.{⊤, is_some, is_err, Result, Ok, Err, OnOk, OnErr}
use Rattle.std.specs.Option.{option_map, option_and_then}
use Rattle.std.specs.FinMap.{get, get-insert}
use Rattle.std.proofs.lemmas.Cmp.{eq_by_cmp_equiv}
use Rattle.std.proofs.lemmas.Bool.{eq-eqb, ne_eqb, cases_eq}
use Rattle.std.proofs.lemmas.Option.{none-some}
use Rattle.psos_table.specs.Table.{Table, at, has, put, edit}
use Rattle.psos_table.proofs.Tables.{same_table, at-put_here, at-put_apart, at-edit_here, at-edit_apart}
use Rattle.psos_text.specs.declared.name.Name.{Name}
use Rattle.psos_calls.specs.declared.kind.Kind.{Kind}
use Rattle.psos_model.specs.declared.change.Change.TheVariants.{Register}
use Rattle.psos_model.specs.Flat.{Flat, Segment, Object, Directory, Named, named}
use Rattle.psos_model.specs.Flat.Changes.{changed, with_entry, kept_entry}
use Rattle.psos_model.specs.Flat.Undo.{put_back, entry_back, entry_at, first_entry, taken_back}
use Rattle.psos_model.proofs.NameOrder.{name_cmp_total}
use Rattle.psos_model.proofs.UndoneChanges.{put_back_is, entry_back_is}

pub has_put : {X : Type 0} (m : Table X) (k : ℕ) (x : X) → has (put m k x) k ≡ true
has_put m k x = ap is_some (at-put_here m k x)

-- a fact that holds at an error
pub from_err : {T E P : Type 0} (r : Result T E) → OnErr r P → is_err r ≡ true → P
from_err (Ok x) h e = absurd (subst (λ b. cond b ⊥ ⊤) e tt)
from_err (Err x) h e = h

-- a state with its directories and its user objects as they were
pub same_told : (f : Flat) (dirs : Table Directory) (life : Table Kind) → dirs ≡ f.dirs → life ≡ f.life → record f { dirs = dirs; life = life } ≡ f
same_told f dirs life p q = λ i. record f { dirs = p i; life = q i }

-- an entry that was put is there, where its directory is
pub entry_lives : (m : Table Directory) (u : ℕ) (name : Name) (e : Named) → entry_at (edit m u (with_entry name e)) u name ≡ None → has (edit m u (with_entry name e)) u ≡ false
entry_lives m u name e none = by_row (at m u) refl
  where
    itself : (x : Named) (d : Directory) → named (with_entry name e d) name ≡ Some e
    itself x d = get-insert name_cmp_total d.names name e name ∙ ap (λ b. cond b (Some e) (get d.names name)) ((eq_by_cmp_equiv name_cmp_total).refl name)

    by_row : (o : Option Directory) → at m u ≡ o → has (edit m u (with_entry name e)) u ≡ false
    by_row None is = ap is_some (at-edit_here m u (with_entry name e) ∙ ap (option_map (with_entry name e)) is)
    by_row (Some d) is =
        let row : at (edit m u (with_entry name e)) u ≡ Some (with_entry name e d) = at-edit_here m u (with_entry name e) ∙ ap (option_map (with_entry name e)) is in
        let there : entry_at (edit m u (with_entry name e)) u name ≡ named (with_entry name e d) name = ap (λ (o : Option Directory). option_and_then (λ (d : Directory). named d name) o) row in
        absurd (none-some e (sym none ∙ (there ∙ itself e d)))

-- to tell of an object and to take that back changes nothing
pub told_back : (f : Flat) (u d : ℕ) (name : Name) (kind : Kind)
    → record f { dirs = edit (edit f.dirs d (with_entry name (kept_entry u))) d (entry_back name (entry_at f.dirs d name)); life = put_back (put f.life u kind) u (at f.life u) } ≡ f
told_back f u d name kind = same_told f _ _ (entry_back_is f.dirs d name (kept_entry u)) (put_back_is f.life u kind)

pub made_then_told : (m : Table Directory) (u d : ℕ) (x : Directory) (name : Name) (e : Named)
    → put (edit m d (with_entry name e)) u (first_entry (eqb u d) name e x) ≡ edit (put m u x) d (with_entry name e)
made_then_told m u d x name e = elim (cases_eq u d) [
  | inl same ↦ subst (λ k. put (edit m k g) u (first_entry (eqb u k) name e x) ≡ edit (put m u x) k g) same (here)
  | inr apart ↦ ap (λ b. put (edit m d g) u (first_entry b name e x)) (ne_eqb u d apart) ∙ same_table _ _ (λ q. away apart q)
]
  where
    g : Directory → Directory
    g = with_entry name e

    here : put (edit m u g) u (first_entry (eqb u u) name e x) ≡ edit (put m u x) u g
    here = ap (λ b. put (edit m u g) u (first_entry b name e x)) (eq-eqb u u refl)
        ∙ same_table _ _ (λ q. by_key q (cases_eq q u))
      where
        by_key : (q : ℕ) → (q ≡ u) ⊎ (q ≡ u → ⊥) → at (put (edit m u g) u (g x)) q ≡ at (edit (put m u x) u g) q
        by_key q (inl is) = subst (λ k. at (put (edit m u g) u (g x)) k ≡ at (edit (put m u x) u g) k) (sym is) (at-put_here (edit m u g) u (g x) ∙ sym (at-edit_here (put m u x) u g ∙ ap (option_map g) (at-put_here m u x)))
        by_key q (inr gone) = at-put_apart (edit m u g) u (g x) q gone ∙ (at-edit_apart m u g q gone ∙ sym (at-edit_apart (put m u x) u g q gone ∙ at-put_apart m u x q gone))

    away : (u ≡ d → ⊥) → (q : ℕ) → at (put (edit m d g) u x) q ≡ at (edit (put m u x) d g) q
    away apart q = by_key (cases_eq q u) (cases_eq q d)
      where
        by_key : (q ≡ u) ⊎ (q ≡ u → ⊥) → (q ≡ d) ⊎ (q ≡ d → ⊥) → at (put (edit m d g) u x) q ≡ at (edit (put m u x) d g) q
        by_key (inl is) _ = subst (λ k. at (put (edit m d g) u x) k ≡ at (edit (put m u x) d g) k) (sym is) (at-put_here (edit m d g) u x ∙ sym (at-edit_apart (put m u x) d g u apart ∙ at-put_here m u x))
        by_key (inr gone) (inl is) =
            let off : d ≡ u → ⊥ = λ p. apart (sym p) in
            subst (λ k. at (put (edit m d g) u x) k ≡ at (edit (put m u x) d g) k) (sym is) (at-put_apart (edit m d g) u x d off ∙ (at-edit_here m d g ∙ sym (at-edit_here (put m u x) d g ∙ ap (option_map g) (at-put_apart m u x d off))))
        by_key (inr gone) (inr off) = at-put_apart (edit m d g) u x q gone ∙ (at-edit_apart m d g q off ∙ sym (at-edit_apart (put m u x) d g q off ∙ at-put_apart m u x q gone))

-- a state with its segments and its objects as they were
pub same_made : (f : Flat) (segments : Table Segment) (objects : Table Object) → segments ≡ f.segments → objects ≡ f.objects → record f { segments = segments; objects = objects } ≡ f
same_made f segments objects p q = λ i. record f { segments = p i; objects = q i }

abbrev pub told : Flat → ℕ → ℕ → Name → Kind → Flat
told f u d name kind = changed f (Register u d name kind)

-- what take_back asks of a state in which a user object was told of
pub life_there : (f g : Flat) (u d : ℕ) (name : Name) (kind : Kind) → g ≡ told f u d name kind → has g.life u ≡ true
life_there f g u d name kind is = ap (λ (h : Flat). has h.life u) is ∙ has_put f.life u kind

pub entry_there : (f g : Flat) (u d : ℕ) (name : Name) (kind : Kind) → g ≡ told f u d name kind → entry_at g.dirs d name ≡ None → has g.dirs d ≡ false
entry_there f g u d name kind is none =
    ap (λ (h : Flat). has h.dirs d) is ∙ entry_lives f.dirs d name (kept_entry u) (sym (ap (λ (h : Flat). entry_at h.dirs d name) is) ∙ none)

-- and what it gives
pub taken_is : (f g : Flat) (u d : ℕ) (name : Name) (kind : Kind) (was : Option Kind) (entry : Option Named)
    → g ≡ told f u d name kind → was ≡ at f.life u → entry ≡ entry_at f.dirs d name → taken_back g u d name was entry ≡ f
taken_is f g u d name kind was entry p q r =
    ap (λ h. taken_back h u d name was entry) p
    ∙ ap (λ k. taken_back (told f u d name kind) u d name k entry) q
    ∙ ap (λ e. taken_back (told f u d name kind) u d name (at f.life u) e) r
    ∙ told_back f u d name kind

abbrev pub with_dirs : Flat → Table Directory → Flat
with_dirs f dirs = record f { dirs = dirs }

pub from_ok : {T E P : Type 0} (r : Result T E) → OnOk r P → is_err r ≡ false → P
from_ok (Ok x) h e = h
from_ok (Err x) h e = absurd (subst (λ b. cond b ⊤ ⊥) e tt)

-- a directory that is made once it was told of
pub directory_told : (f g : Flat) (made u d : ℕ) (name : Name) (kind : Kind) (x y : Directory) (dirs : Table Directory)
    → g ≡ told f u d name kind → y ≡ first_entry (eqb made d) name (kept_entry u) x → dirs ≡ put g.dirs made y
    → with_dirs g dirs ≡ told (with_dirs f (put f.dirs made x)) u d name kind
directory_told f g made u d name kind x y dirs p q r =
    let t = told f u d name kind in
    ap (with_dirs g) r
    ∙ ap (λ (h : Flat). with_dirs h (put h.dirs made y)) p
    ∙ ap (λ (w : Directory). with_dirs t (put t.dirs made w)) q
    ∙ ap (with_dirs t) (made_then_told f.dirs made d x name (kept_entry u))
