-- The loop over the stamps.
use Rattle.std.proofs.Common.{◌≡◌, ℕ, ◌+◌, ◌<◌, ◌≤◌, Bool, true, false, cond, eqb, zero, suc, List, [], ◌∷◌, ◌++◌, length, map, get_or, set, take, Option, Some, None, inl, inr, refl, sym, ap, subst, ◌∙◌, arith}
use Rattle.std.specs.Prelude.{option_map, find, slice_get, replicate, is_none, IfNone}
use Rattle.std.specs.Option.{option_or}
use Rattle.std.proofs.lemmas.Bool.{eqb-true, eq-eqb, cases_lt}
use Rattle.std.proofs.lemmas.List.{length-set, get_or-set_same, get_or-set_other, get_or-replicate, length-replicate, length-map, take_all, get_or_past, map-append}
use Rattle.std.proofs.Math.Seq.{take-suc}
use Rattle.std.proofs.lemmas.List.Folds.{find-append}
use Rattle.std.proofs.lemmas.List.Sums.{count_by_more_no, count_by_more_yes, sum_by-take-le, sum_by-cons}
use Rattle.psos_check.specs.declared.stamped.Stamped.{Stamped}
use Rattle.psos_check.specs.Order.{count_at, HasEachStamp, user_at, IsOrder, HasGap}

abbrev has : ℕ → Stamped → Bool
has k x = eqb x.stamp k

-- ---- counts and users

count_step : (x : Stamped) (xs : List Stamped) (k : ℕ) → count_at (x ∷ xs) k ≡ cond (has k x) 1 0 + count_at xs k
count_step x xs k = sum_by-cons (λ (x : Stamped). cond (has k x) 1 0) x xs

none_case : (x : Stamped) (xs : List Stamped) (k : ℕ) (t : Bool) → has k x ≡ t → option_map (λ (x : Stamped). x.user) (cond t (Some x) (find (has k) xs)) ≡ None → (user_at xs k ≡ None → count_at xs k ≡ 0) → cond t 1 0 + count_at xs k ≡ 0
none_case x xs k true t e h = absurd cc
none_case x xs k false t e h = omega (arith, h e)

-- no user, so no line
pub none_counted : (xs : List Stamped) (k : ℕ) → user_at xs k ≡ None → count_at xs k ≡ 0
none_counted [] k e = refl
none_counted (x ∷ xs) k e = count_step x xs k ∙ none_case x xs k (has k x) refl e (none_counted xs k)

some_case : (x : Stamped) (xs : List Stamped) (k u : ℕ) (t : Bool) → option_map (λ (x : Stamped). x.user) (cond t (Some x) (find (has k) xs)) ≡ Some u → (user_at xs k ≡ Some u → 1 ≤ count_at xs k) → 1 ≤ cond t 1 0 + count_at xs k
some_case x xs k u true e h = omega arith
some_case x xs k u false e h = omega (arith, h e)

-- a user, so a line
pub some_counted : (xs : List Stamped) (k u : ℕ) → user_at xs k ≡ Some u → 1 ≤ count_at xs k
some_counted [] k u e = absurd cc
some_counted (x ∷ xs) k u e = omega (arith, count_step x xs k, some_case x xs k u (has k x) e (some_counted xs k u))

-- ---- the places

-- the places hold the users of these lines, and no two lines have one stamp below n
pub record HasPlaces (n : ℕ) (lines : List Stamped) (places : List (Option ℕ)) : Type 0 where
  pub count : length places ≡ n
  pub each : (k : ℕ) → k < n → get_or places k None ≡ user_at lines k
  pub once : (k : ℕ) → k < n → count_at lines k ≤ 1

pub no_lines : (n : ℕ) (lines : List Stamped) (places : List (Option ℕ)) → places ≡ replicate n None → HasPlaces n (take 0 lines) places
no_lines n lines places e = subst (λ (p : List (Option ℕ)). HasPlaces n (take 0 lines) p) (sym e) (record { count = length-replicate n None; each = λ k lt. get_or-replicate n k None None lt; once = λ k lt. omega arith })

or_none : (o : Option Stamped) → option_or o None ≡ o
or_none None = refl
or_none (Some x) = refl

user_snoc : (xs : List Stamped) (x : Stamped) (k : ℕ) → user_at (xs ++ x ∷ []) k ≡ option_map (λ (x : Stamped). x.user) (option_or (find (has k) xs) (cond (has k x) (Some x) None))
user_snoc xs x k = ap (option_map (λ (x : Stamped). x.user)) (find-append (has k) xs (x ∷ []))

unmapped : (o : Option Stamped) → option_map (λ (x : Stamped). x.user) o ≡ None → o ≡ None
unmapped None e = refl
unmapped (Some x) e = absurd cc

user_here : (xs : List Stamped) (x : Stamped) (k : ℕ) → has k x ≡ true → user_at xs k ≡ None → user_at (xs ++ x ∷ []) k ≡ Some x.user
user_here xs x k t e = user_snoc xs x k ∙ rw (unmapped (find (has k) xs) e, t) refl

user_else : (xs : List Stamped) (x : Stamped) (k : ℕ) → has k x ≡ false → user_at (xs ++ x ∷ []) k ≡ user_at xs k
user_else xs x k t = user_snoc xs x k ∙ rw t (ap (option_map (λ (x : Stamped). x.user)) (or_none (find (has k) xs)))

-- what stands behind the end of a list
abbrev pub no_line : Stamped
no_line = record { user = 0; stamp = 0 }

none_is : (o : Option ℕ) → is_none o ≡ true → o ≡ None
none_is None e = refl
none_is (Some x) e = absurd cc

some_is : (o : Option ℕ) → is_none o ≡ false → (u : ℕ) × (o ≡ Some u)
some_is None e = absurd cc
some_is (Some x) e = (x, refl)

-- ---- one line more

next_take : (all : List Stamped) (i : ℕ) → i < length all → take (i + 1) all ≡ take i all ++ get_or all i no_line ∷ []
next_take all i lt = ap (λ (n : ℕ). take n all) (let e : i + 1 ≡ suc i = omega arith in e) ∙ take-suc all i no_line lt

abbrev line_at : List Stamped → ℕ → Stamped
line_at all i = get_or all i no_line

each_case : (all : List Stamped) (i n : ℕ) (places : List (Option ℕ)) (k : ℕ) (t : Bool) → has k (line_at all i) ≡ t → i < length all → k < n → get_or places (line_at all i).stamp None ≡ None → HasPlaces n (take i all) places
    → get_or (set places (line_at all i).stamp (Some (line_at all i).user)) k None ≡ user_at (take i all ++ line_at all i ∷ []) k
each_case all i n places k true t lt less free h =
    let x = line_at all i in
    let same : x.stamp ≡ k = eqb-true x.stamp k t in
    let here : get_or (set places x.stamp (Some x.user)) k None ≡ Some x.user =
    ap (λ (j : ℕ). get_or (set places x.stamp (Some x.user)) j None) (sym same) ∙ get_or-set_same places x.stamp (Some x.user) None (omega (arith, same, less, h.count)) in
    here ∙ sym (user_here (take i all) x k t (sym (h.each k less) ∙ ap (λ (j : ℕ). get_or places j None) (sym same) ∙ free))
each_case all i n places k false t lt less free h =
    let x = line_at all i in
    get_or-set_other places x.stamp k (Some x.user) None (λ e. absurd (differs e)) ∙ h.each k less ∙ sym (user_else (take i all) x k t) where
      differs : k ≡ (line_at all i).stamp → ⊥
      differs e = cc (eq-eqb (line_at all i).stamp k (sym e), t)

once_case : (all : List Stamped) (i n : ℕ) (places : List (Option ℕ)) (k : ℕ) (t : Bool) → has k (line_at all i) ≡ t → i < length all → k < n → get_or places (line_at all i).stamp None ≡ None → HasPlaces n (take i all) places → count_at (take (i + 1) all) k ≤ 1
once_case all i n places k true t lt less free h =
    let x = line_at all i in
    let same : x.stamp ≡ k = eqb-true x.stamp k t in
    let none : count_at (take i all) k ≡ 0 = none_counted (take i all) k (sym (h.each k less) ∙ ap (λ (j : ℕ). get_or places j None) (sym same) ∙ free) in
    omega (arith, none, count_by_more_yes (has k) all i no_line lt t)
once_case all i n places k false t lt less free h = omega (arith, h.once k less, count_by_more_no (has k) all i no_line lt t)

-- a line at a free place, or past the places
pub one_put : (all : List Stamped) (i n : ℕ) (places now : List (Option ℕ)) (x : Stamped) → x ≡ get_or all i no_line → i < length all → true ≡ is_none (get_or places x.stamp None) → now ≡ set places x.stamp (Some x.user) → HasPlaces n (take i all) places → HasPlaces n (take (i + 1) all) now
one_put all i n places now x e lt t s h =
    let y = line_at all i in
    let free : get_or places y.stamp None ≡ None = none_is (get_or places y.stamp None) (ap (λ (x : Stamped). is_none (get_or places x.stamp None)) (sym e) ∙ sym t) in
    let is : set places y.stamp (Some y.user) ≡ now = ap (λ (x : Stamped). set places x.stamp (Some x.user)) (sym e) ∙ sym s in
    subst (λ (p : List (Option ℕ)). HasPlaces n (take (i + 1) all) p) is
    (record {
      count = length-set places y.stamp (Some y.user) ∙ h.count;
      each = λ k less. each_case all i n places k (has k y) refl lt less free h ∙ ap (λ (ls : List Stamped). user_at ls k) (sym (next_take all i lt));
      once = λ k less. once_case all i n places k (has k y) refl lt less free h;
    })

-- a line at a place that is taken
pub twice : (all : List Stamped) (i n : ℕ) (places : List (Option ℕ)) (x : Stamped) → n ≡ length all → x ≡ get_or all i no_line → i < length all → false ≡ is_none (get_or places x.stamp None) → HasPlaces n (take i all) places → ¬ HasEachStamp all
twice all i n places x long e lt t h each =
    let y = line_at all i in
    let there = some_is (get_or places y.stamp None) (ap (λ (x : Stamped). is_none (get_or places x.stamp None)) (sym e) ∙ sym t) in
    let less : y.stamp < n = elim (cases_lt y.stamp n) [ inl lt ↦ lt | inr le ↦ absurd (past le there.0 there.1) ] in
    let two : count_at (take (i + 1) all) y.stamp ≡ count_at (take i all) y.stamp + 1 = count_by_more_yes (has y.stamp) all i no_line lt (eq-eqb y.stamp y.stamp refl) in
    let one : 1 ≤ count_at (take i all) y.stamp = some_counted (take i all) y.stamp there.0 (sym (h.each y.stamp less) ∙ there.1) in
    let all_of : count_at (take (i + 1) all) y.stamp ≤ count_at all y.stamp = sum_by-take-le (λ (x : Stamped). cond (has y.stamp x) 1 0) all (i + 1) in
    omega (arith, two, one, all_of, each y.stamp (omega (arith, less, long))) where
      past : n ≤ (line_at all i).stamp → (u : ℕ) → get_or places (line_at all i).stamp None ≡ Some u → ⊥
      past le u e = cc (get_or_past places (line_at all i).stamp None (omega (arith, le, h.count)), e)

-- ---- all lines

map_at : (users : List ℕ) (k : ℕ) → get_or (map (λ (u : ℕ). (let o : Option ℕ = Some u in o)) users) k None ≡ slice_get users k
map_at [] k = refl
map_at (u ∷ us) zero = refl
map_at (u ∷ us) (suc k) = map_at us k

abbrev filled : List ℕ → List (Option ℕ)
filled users = map (λ (u : ℕ). (let o : Option ℕ = Some u in o)) users

pub all_put : (all : List Stamped) (i : ℕ) (places : List (Option ℕ)) (users : List ℕ) → length all ≤ i → HasPlaces (length all) (take i all) places → places ≡ filled users → IsOrder all users
all_put all i places users end h e = record {
  stamps = λ k lt. omega (arith, once k lt, (let there = got k lt in some_counted all k there.0 (sym (each k lt) ∙ there.1)));
  count = sym (length-map users (λ (u : ℕ). (let o : Option ℕ = Some u in o))) ∙ ap length (sym e) ∙ h.count;
  users = λ k lt. sym (map_at users k) ∙ ap (λ (p : List (Option ℕ)). get_or p k None) (sym e) ∙ each k lt;
} where
  whole : take i all ≡ all
  whole = take_all i all end

  each : (k : ℕ) → k < length all → get_or places k None ≡ user_at all k
  each k lt = h.each k lt ∙ ap (λ (ls : List Stamped). user_at ls k) whole

  once : (k : ℕ) → k < length all → count_at all k ≤ 1
  once k lt = subst (λ (ls : List Stamped). count_at ls k ≤ 1) whole (h.once k lt)

  filled_at : (users : List ℕ) (k : ℕ) → k < length (filled users) → (u : ℕ) × (get_or (filled users) k None ≡ Some u)
  filled_at [] k lt = absurd (omega (arith, lt))
  filled_at (u ∷ us) zero lt = (u, refl)
  filled_at (u ∷ us) (suc k) lt = filled_at us k (omega (arith, lt))

  got : (k : ℕ) → k < length all → (u : ℕ) × (get_or places k None ≡ Some u)
  got k lt = subst (λ (p : List (Option ℕ)). (u : ℕ) × (get_or p k None ≡ Some u)) (sym e) (filled_at users k (omega (arith, lt, ap length e, h.count)))

pub gap : (all : List Stamped) (i : ℕ) (places : List (Option ℕ)) → length all ≤ i → HasPlaces (length all) (take i all) places → HasGap places → ¬ HasEachStamp all
gap all i places end h g each =
    let lt : g.place < length all = omega (arith, g.within, h.count) in
    let none : user_at all g.place ≡ None = ap (λ (ls : List Stamped). user_at ls g.place) (sym (take_all i all end)) ∙ sym (h.each g.place lt) ∙ g.empty in
    omega (arith, each g.place lt, none_counted all g.place none)

-- ---- the users at the places

-- the first i places hold these users
pub record HasTaken (places : List (Option ℕ)) (i : ℕ) (users : List ℕ) : Type 0 where
  pub taken : take i places ≡ filled users

pub none_taken : (places : List (Option ℕ)) (users : List ℕ) → users ≡ [] → HasTaken places 0 users
none_taken places users e = record { taken = ap filled (sym e) }

pub one_taken : (places : List (Option ℕ)) (i u : ℕ) (users now : List ℕ) → i < length places → get_or places i None ≡ Some u → now ≡ users ++ u ∷ [] → HasTaken places i users → HasTaken places (i + 1) now
one_taken places i u users now lt e n h = record {
  taken = ap (λ (m : ℕ). take m places) (let k : i + 1 ≡ suc i = omega arith in k) ∙ take-suc places i None lt ∙ ap (λ (ls : List (Option ℕ)). ls ++ get_or places i None ∷ []) h.taken ∙ ap (λ (o : Option ℕ). filled users ++ o ∷ []) e
      ∙ sym (map-append (λ (u : ℕ). (let o : Option ℕ = Some u in o)) users (u ∷ [])) ∙ ap filled (sym n);
}

pub all_taken : (places : List (Option ℕ)) (i : ℕ) (users : List ℕ) → length places ≤ i → HasTaken places i users → places ≡ filled users
all_taken places i users end h = sym (take_all i places end) ∙ h.taken

-- what follows from what is said of no value
pub IfNone_then : {X : Type 0} {P Q : Type 0} (o : Option X) → IfNone o P → (P → Q) → IfNone o Q
IfNone_then None h f = f h
IfNone_then (Some x) h f = tt
