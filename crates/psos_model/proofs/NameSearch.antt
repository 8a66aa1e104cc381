-- What is found in a name space, one directory at a time, and the names of a directory in order.
use Rattle.std.proofs.Common.{◌≡◌, ℕ, zero, suc, Bool, true, false, List, [], ◌∷◌, ◌++◌, append-nil, drop, length, slice_get, map, Option, Some, None, refl, sym, ap, ◌∙◌, arith}
use Rattle.std.specs.Option.{option_map}
use Rattle.std.specs.declared.cmp.Ordering.{Ordering}
use Rattle.std.specs.declared.cmp.Ordering.TheVariants.{Less}
use Rattle.std.specs.List.{AllByRecursion}
use Rattle.std.specs.List.Sorted.{IsStrictlySortedBy}
use Rattle.std.specs.Cmp.{IsTotalOrder}
use Rattle.std.specs.FinMap.{entries, from_entries, entries-insert, empty, put, len-entries, len-empty}
use Rattle.std.proofs.lemmas.Option.{same_Some, none-some}
use Rattle.psos_table.specs.Table.{at}
use Rattle.psos_caps.specs.Capability.{Capability}
use Rattle.psos_text.specs.declared.name.Name.{Name}
use Rattle.psos_words.specs.declared.word.Word.TheVariants.{Cap}
use Rattle.psos_calls.specs.declared.right.Right.TheVariants.{Lookup}
use Rattle.psos_calls.specs.Language.Rights.{has}
use Rattle.psos_calls.specs.Language.Capabilities.{uid}
use Rattle.psos_calls.specs.Language.Tests.{if_there, if_holds}
use Rattle.psos_model.specs.declared.place.Place.TheVariants.{DirName}
use Rattle.psos_model.specs.Flat.{Flat, Directory, Named, named}
use Rattle.psos_model.specs.Answer.Outcomes.{Outcome, gives, by}
use Rattle.psos_model.specs.Answer.Directories.{find_in}
use Rattle.psos_model.specs.Flat.Within.{found_in}

-- the list from a place that has an element
pub drop_at : {X : Type 0} (xs : List X) (i : ℕ) (x : X) → slice_get xs i ≡ Some x → drop i xs ≡ x ∷ drop (suc i) xs
drop_at [] i x e = absurd (none-some x e)
drop_at (y ∷ ys) zero x e = ap (λ z. z ∷ ys) (same_Some y x e)
drop_at (y ∷ ys) (suc i) x e = drop_at ys i x e

module _ (later : Outcome) (go : Capability → Outcome) (cap : Capability) where
  by_entry : (o : Option Named) → option_map (λ (e : Named). e.cap) o ≡ Some cap → if_there o later (λ e. go e.cap) ≡ go cap
  by_entry None e = absurd (none-some cap e)
  by_entry (Some x) e = ap go (same_Some x.cap cap e)

  by_right : (b : Bool) (o : Option Named) → if_holds b None (option_map (λ (e : Named). e.cap) o) ≡ Some cap → if_holds b later (if_there o later (λ e. go e.cap)) ≡ go cap
  by_right false o e = absurd (none-some cap e)
  by_right true o e = by_entry o e

  by_dir : (b : Bool) (name : Name) (o : Option Directory) → if_there o None (λ d. if_holds b None (option_map (λ (e : Named). e.cap) (named d name))) ≡ Some cap
      → if_there o later (λ d. if_holds b later (if_there (named d name) later (λ e. go e.cap))) ≡ go cap
  by_dir b name None e = absurd (none-some cap e)
  by_dir b name (Some d) e = by_right b (named d name) e

-- a directory that has the name is where it is found
pub found_here : (f : Flat) (path : List Capability) (i rd : ℕ) (name : Name) (dir cap : Capability) → slice_get path i ≡ Some dir → found_in f dir name ≡ Some cap
    → find_in f (drop i path) rd name ≡ gives [] rd (Cap cap) (by (DirName (uid dir.uid) name) Lookup)
found_here f path i rd name dir cap at_i found =
    ap (λ p. find_in f p rd name) (drop_at path i dir at_i)
    ∙ by_dir (find_in f (drop (suc i) path) rd name) (λ c. gives [] rd (Cap c) (by (DirName (uid dir.uid) name) Lookup)) cap (has dir Lookup) name (at f.dirs dir.uid) found

no_length : {X : Type 0} (xs : List X) → length xs ≡ 0 → xs ≡ []
no_length [] e = refl
no_length (x ∷ xs) e = absurd (omega arith)

module _ {K V : Type 0} {R : K → K → Ordering} (o : IsTotalOrder R) where
  first_put : (k : K) (v : V) (es : List (K × V)) → AllByRecursion (λ y. R k y ≡ Less) (map (λ e. e.0) es) → put R k v es ≡ (k, v) ∷ es
  first_put k v [] h = refl
  first_put k v (e ∷ es) h = rw h.0 refl

  -- entries in order are those of their map
  pub entries_rows : (es : List (K × V)) → IsStrictlySortedBy R (map (λ e. e.0) es) → entries (from_entries {R = R} es) ≡ es
  unfolding IsStrictlySortedBy
  entries_rows [] h = no_length (entries (empty {R = R})) (sym (len-entries empty) ∙ len-empty R V)
  entries_rows (e ∷ es) h = entries-insert o (from_entries es) e.0 e.1 ∙ (ap (put R e.0 e.1) (entries_rows es h.1) ∙ first_put e.0 e.1 es h.0)

-- names that were passed, and then none that are left
pub all_passed : {X : Type 0} (names left all : List X) → names ++ left ≡ all → left ≡ [] → names ≡ all
all_passed names left all e none = sym (append-nil names) ∙ (sym (ap (λ l. names ++ l) none) ∙ e)
