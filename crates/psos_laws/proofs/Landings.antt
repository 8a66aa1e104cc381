-- What is at a place after one change of a list or a table, and after landings.
use Rattle.std.proofs.Common.{◌≡◌, ◌⊎◌, ℕ, zero, suc, ◌+◌, ◌==◌, ◌&&◌, Bool, true, false, cond, List, [], ◌∷◌, ◌++◌, length, drop, slice_get, slice_set, Option, Some, None, option_map, bytes_eq, refl, sym, ap, subst, ◌∙◌, inl, inr, arith, get_or-set_other}
use Rattle.std.specs.List.{AllByRecursion}
use Rattle.std.specs.FinMap.{get, get-insert, get-remove}
use Rattle.std.specs.FinMap as maps
use Rattle.std.proofs.lemmas.Option.{same_Some, none-some}
use Rattle.std.proofs.lemmas.Bool.{eqb-true, false≢true, and_parts}
use Rattle.std.proofs.lemmas.Bool.Decides.{eqb_tells}
use Rattle.std.proofs.lemmas.Slice.Eq.{bytes_eq-Decides}
use Rattle.std.proofs.lemmas.Map.Text.{is_eq-slice_cmp}
use Rattle.psos_table.specs.Table.{Table, at, edit}
use Rattle.psos_table.proofs.Tables.{at-edit}
use Rattle.psos_caps.specs.Capability.{Capability}
use Rattle.psos_text.specs.declared.name.Name.{Name}
use Rattle.psos_words.specs.declared.word.Word.{Word}
use Rattle.psos_words.specs.declared.word.Word.TheVariants.{Data, Cap}
use Rattle.psos_words.specs.Words.{word_at, zeros}
use Rattle.psos_model.specs.declared.place.Place.{Place}
use Rattle.psos_model.specs.declared.place.Place.TheVariants.{Reg, FrameReg, PathAt, SegWord, DirName, BoxAt, Link, ImplOf}
use Rattle.psos_model.specs.Flat.{Named, Names}
use Rattle.psos_model.specs.Flat.Places.{cap_in, same_place}
use Rattle.psos_model.proofs.NameOrder.{name_cmp_total}
use Rattle.psos_laws.specs.Landings.{Landing, found, landed}

-- the first is the second, or nothing
abbrev pub Within : Option Capability → Option Capability → Type 0
Within a b = (c : Capability) → a ≡ Some c → b ≡ Some c

pub within_trans : {a b o : Option Capability} → Within a b → Within b o → Within a o
within_trans h k c e = k c (h c e)

-- a test of two numbers
pub by_test : (P : Bool → Type 0) (a b : ℕ) → (a ≡ b → P true) → ((a ≡ b → ⊥) → P false) → P (a == b)
by_test P a b at_same at_other = elim (eqb_tells a b) [
  | inl p ↦ subst P (sym p.0) (at_same p.1)
  | inr p ↦ subst P (sym p.0) (at_other p.1)
]

-- ---- lists of words

set_here : (ws : List Word) (i : ℕ) (w : Word) → Within (cap_in (word_at (slice_set ws i w) i)) (cap_in w)
set_here [] i w c e = absurd (none-some c e)
set_here (y ∷ ys) zero w c e = e
set_here (y ∷ ys) (suc i) w c e = set_here ys i w c e

-- a word of a list with one word set
pub in_set : (ws : List Word) (i j : ℕ) (w : Word) → Within (cap_in (word_at (slice_set ws i w) j)) (cond (j == i) (cap_in w) (cap_in (word_at ws j)))
in_set ws i j w c e = by_test (λ b. cond b (cap_in w) (cap_in (word_at ws j)) ≡ Some c) j i
    (λ same. set_here ws i w c (ap (λ (k : ℕ). cap_in (word_at (slice_set ws i w) k)) (sym same) ∙ e))
    (λ other. ap cap_in (sym (get_or-set_other ws i j w (Data 0) other)) ∙ e)

pub append_here : (ws : List Word) (w : Word) → word_at (ws ++ (w ∷ [])) (length ws) ≡ w
append_here [] w = refl
append_here (y ∷ ys) w = append_here ys w

append_apart : (ws : List Word) (w : Word) (j : ℕ) → (j ≡ length ws → ⊥) → word_at (ws ++ (w ∷ [])) j ≡ word_at ws j
append_apart [] w zero n = absurd (n refl)
append_apart [] w (suc j) n = refl
append_apart (y ∷ ys) w zero n = refl
append_apart (y ∷ ys) w (suc j) n = append_apart ys w j (λ e. n (ap suc e))

-- a word of a list with one word more
pub in_append : (ws : List Word) (w : Word) (j : ℕ) → Within (cap_in (word_at (ws ++ (w ∷ [])) j)) (cond (j == length ws) (cap_in w) (cap_in (word_at ws j)))
in_append ws w j c e = by_test (λ b. cond b (cap_in w) (cap_in (word_at ws j)) ≡ Some c) j (length ws)
    (λ same. ap cap_in (sym (append_here ws w)) ∙ (ap (λ (k : ℕ). cap_in (word_at (ws ++ (w ∷ [])) k)) (sym same) ∙ e))
    (λ other. ap cap_in (sym (append_apart ws w j other)) ∙ e)

drop_one : (ws : List Word) (j : ℕ) → word_at (drop 1 ws) j ≡ word_at ws (suc j)
drop_one [] j = refl
drop_one (y ∷ ys) j = refl

-- a word of a list without its first
pub in_drop : (ws : List Word) (j : ℕ) → word_at (drop 1 ws) j ≡ word_at ws (j + 1)
in_drop ws j =
    let next : suc j ≡ j + 1 = omega arith in
    drop_one ws j ∙ ap (word_at ws) next

pub zeros_none : (n j : ℕ) (c : Capability) → cap_in (word_at (zeros n) j) ≡ Some c → ⊥
zeros_none zero j c e = none-some c e
zeros_none (suc n) zero c e = none-some c e
zeros_none (suc n) (suc j) c e = zeros_none n j c e

-- ---- name spaces

pub got_here : (xs : List Capability) (x : Capability) → slice_get (xs ++ (x ∷ [])) (length xs) ≡ Some x
got_here [] x = refl
got_here (y ∷ ys) x = got_here ys x

pub got_apart : (xs : List Capability) (x : Capability) (j : ℕ) → (j ≡ length xs → ⊥) → slice_get (xs ++ (x ∷ [])) j ≡ slice_get xs j
got_apart [] x zero n = absurd (n refl)
got_apart [] x (suc j) n = refl
got_apart (y ∷ ys) x zero n = refl
got_apart (y ∷ ys) x (suc j) n = got_apart ys x j (λ e. n (ap suc e))

-- a directory of a name space with one more
pub in_pushed : (xs : List Capability) (x : Capability) (j : ℕ) → Within (slice_get (xs ++ (x ∷ [])) j) (cond (j == length xs) (Some x) (slice_get xs j))
in_pushed xs x j c e = by_test (λ b. cond b (Some x) (slice_get xs j) ≡ Some c) j (length xs)
    (λ same. sym (got_here xs x) ∙ (ap (slice_get (xs ++ (x ∷ []))) (sym same) ∙ e))
    (λ other. sym (got_apart xs x j other) ∙ e)

-- ---- tables

-- the row under a number, of a table with one row changed
pub edited_at : {X : Type 0} (m : Table X) (k : ℕ) (f : X → X) (q : ℕ) → at (edit m k f) q ≡ cond (q == k) (option_map f (at m q)) (at m q)
edited_at m k f q = at-edit m k f q ∙ by_test (λ b. cond b (option_map f (at m k)) (at m q) ≡ cond b (option_map f (at m q)) (at m q)) q k
    (λ same. ap (λ (j : ℕ). option_map f (at m j)) (sym same)) (λ other. refl)

-- what a name stands for, once one name stands for something else, or for nothing
pub named_put : (m : Names) (name : Name) (e : Named) (q : Name) → get (maps.insert m name e) q ≡ cond (bytes_eq q.bytes name.bytes) (Some e) (get m q)
named_put m name e q = get-insert name_cmp_total m name e q ∙ ap (λ b. cond b (Some e) (get m q)) (is_eq-slice_cmp q.bytes name.bytes)

pub named_gone : (m : Names) (name q : Name) → get (maps.remove m name) q ≡ cond (bytes_eq q.bytes name.bytes) None (get m q)
named_gone m name q = get-remove name_cmp_total m name q ∙ ap (λ b. cond b None (get m q)) (is_eq-slice_cmp q.bytes name.bytes)

-- ---- places

same_name : (n m : Name) → bytes_eq n.bytes m.bytes ≡ true → n ≡ m
same_name n m e =
    let of : List ℕ → Name = λ b. record { bytes = b } in
    ap of ((bytes_eq-Decides n.bytes m.bytes).0 e)

two : (a b i j : ℕ) → ((a == b) && (i == j)) ≡ true → (a ≡ b) × (i ≡ j)
two a b i j e = let both = and_parts (a == b) (i == j) e in (eqb-true a b both.0, eqb-true i j both.1)

-- places that the test finds to be one are one
pub one_place : (p q : Place) → same_place p q ≡ true → p ≡ q
one_place (Reg u i) (Reg v j) e = let s = two u v i j e in ap (λ (k : ℕ). Reg k i) s.0 ∙ ap (Reg v) s.1
one_place (FrameReg u d i) (FrameReg v d' j) e =
    let both = and_parts (u == v) ((d == d') && (i == j)) e in
    let s = two d d' i j both.1 in
    ap (λ (k : ℕ). FrameReg k d i) (eqb-true u v both.0) ∙ (ap (λ (k : ℕ). FrameReg v k i) s.0 ∙ ap (FrameReg v d') s.1)
one_place (PathAt u i) (PathAt v j) e = let s = two u v i j e in ap (λ (k : ℕ). PathAt k i) s.0 ∙ ap (PathAt v) s.1
one_place (SegWord u i) (SegWord v j) e = let s = two u.0 v.0 i j e in ap (λ (k : ℕ). SegWord (record { 0 = k }) i) s.0 ∙ ap (SegWord v) s.1
one_place (DirName u n) (DirName v m) e =
    let both = and_parts (u.0 == v.0) (bytes_eq n.bytes m.bytes) e in
    ap (λ (k : ℕ). DirName (record { 0 = k }) n) (eqb-true u.0 v.0 both.0) ∙ ap (DirName v) (same_name n m both.1)
one_place (BoxAt u i) (BoxAt v j) e = let s = two u.0 v.0 i j e in ap (λ (k : ℕ). BoxAt (record { 0 = k }) i) s.0 ∙ ap (BoxAt v) s.1
one_place (Link u) (Link v) e = ap (λ (k : ℕ). Link (record { 0 = k })) (eqb-true u.0 v.0 e)
one_place (ImplOf u) (ImplOf v) e = ap (λ (k : ℕ). ImplOf (record { 0 = k })) (eqb-true u.0 v.0 e)
one_place _ _ e = absurd (false≢true e)

-- ---- landings

pub landed_append : (ps qs : List Landing) (p : Place) (o : Option Capability) → landed (ps ++ qs) p o ≡ landed ps p (landed qs p o)
landed_append [] qs p o = refl
landed_append (l ∷ ps) qs p o = ap (cond (same_place p l.place) (cap_in l.word)) (landed_append ps qs p o)

pub if_within : (t : Bool) (x a b : Option Capability) → Within a b → Within (cond t x a) (cond t x b)
if_within true x a b h c e = e
if_within false x a b h c e = h c e

pub landed_within : (ps : List Landing) (p : Place) (a b : Option Capability) → Within a b → Within (landed ps p a) (landed ps p b)
landed_within [] p a b h c e = h c e
landed_within (l ∷ ps) p a b h c e = if_within (same_place p l.place) (cap_in l.word) (landed ps p a) (landed ps p b) (landed_within ps p a b h) c e

pub word_cap : (w : Word) (c : Capability) → cap_in w ≡ Some c → w ≡ Cap c
word_cap (Data n) c e = absurd (none-some c e)
word_cap (Cap k) c e = ap Cap (same_Some k c e)

pub same_cap : (c e : Capability) → Cap c ≡ Cap e → c ≡ e
same_cap c e h = same_Some c e (ap cap_in h)

-- a capability that landed at a place
pub record Landed (ls : List Landing) (p : Place) (c : Capability) : Type 0 where
  pub landing : Landing
  pub is : found ls p ≡ Some landing
  pub here : p ≡ landing.place
  pub word : landing.word ≡ Cap c

-- a capability at a place landed there, or was there
pub landed_found : (ls : List Landing) (p : Place) (old : Option Capability) (c : Capability) → landed ls p old ≡ Some c
    → Landed ls p c ⊎ ((found ls p ≡ None) × (old ≡ Some c))
landed_found [] p old c e = inr (refl, e)
landed_found (l ∷ ls) p old c e = by_bool (same_place p l.place) refl e (landed_found ls p old c)
  where
    by_bool : (b : Bool) → same_place p l.place ≡ b → cond b (cap_in l.word) (landed ls p old) ≡ Some c
        → (landed ls p old ≡ Some c → Landed ls p c ⊎ ((found ls p ≡ None) × (old ≡ Some c)))
        → Landed (l ∷ ls) p c ⊎ ((cond b (Some l) (found ls p) ≡ None) × (old ≡ Some c))
    by_bool true is g later = inl (record { landing = l; is = ap (λ b. cond b (Some l) (found ls p)) is; here = one_place p l.place is; word = word_cap l.word c g })
    by_bool false is g later = elim (later g) [
      | inl h ↦ inl (record { landing = h.landing; is = ap (λ b. cond b (Some l) (found ls p)) is ∙ h.is; here = h.here; word = h.word })
      | inr h ↦ inr h
    ]

-- what holds of each landing holds of one that is found
pub each_found : (P : Landing → Type 0) (ls : List Landing) (p : Place) (l : Landing) → AllByRecursion P ls → found ls p ≡ Some l → P l
each_found P [] p l h e = absurd (none-some l e)
each_found P (k ∷ ls) p l h e = by_bool (same_place p k.place) e (each_found P ls p l h.1)
  where
    by_bool : (b : Bool) → cond b (Some k) (found ls p) ≡ Some l → (found ls p ≡ Some l → P l) → P l
    by_bool true g later = subst P (same_Some k l g) h.0
    by_bool false g later = later g

pub each_append : (P : Landing → Type 0) (ps qs : List Landing) → AllByRecursion P ps → AllByRecursion P qs → AllByRecursion P (ps ++ qs)
each_append P [] qs h k = k
each_append P (l ∷ ps) qs h k = (h.0, each_append P ps qs h.1 k)
