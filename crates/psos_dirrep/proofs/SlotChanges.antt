-- One slot of a directory is changed.
use Rattle.std.proofs.Common.{◌≡◌, ℕ, zero, suc, ◌+◌, ◌<◌, ◌≤◌, Bool, true, false, cond, not, ◌&&◌, ◌||◌, List, [], ◌∷◌, length, set, slice_get, Option, Some, None, refl, sym, ap, ◌∙◌, arith}
use Rattle.std.specs.List.{list_any}
use Rattle.std.proofs.lemmas.Bool.{true≢false, and_parts}
use Rattle.std.proofs.lemmas.Option.{same_Some, none-some}
use Rattle.std.proofs.lemmas.Slice.Eq.{bytes_eq-Decides}
use Rattle.psos_text.specs.declared.name.Name.{Name}
use Rattle.psos_words.specs.Directory.{Entry, Slot, Never, Gone, Used, Found, same_name, has_name, are_never, are_in_order, are_apart, find_from, free_from}
use Rattle.psos_dirrep.proofs.NameBytes.{bytes_same, bytes_differ}
use Rattle.psos_dirrep.proofs.SlotSearch.{never-in_order}

-- ---- names

same_name-sym : (a b : Name) → same_name a b ≡ false → same_name b a ≡ false
same_name-sym a b e = bytes_differ b.bytes a.bytes (λ is. true≢false (sym ((bytes_eq-Decides a.bytes b.bytes).1 (sym is)) ∙ e))

pub or_parts : (a b : Bool) → (a || b) ≡ false → (a ≡ false) × (b ≡ false)
or_parts false b e = (refl, e)
or_parts true b e = absurd (true≢false e)

pub not-true : (b : Bool) → not b ≡ true → b ≡ false
not-true false e = refl
not-true true e = absurd (true≢false (sym e))

-- a test that an old list and the new element fail
any-set : (p : Slot → Bool) (slots : List Slot) (k : ℕ) (slot : Slot) → list_any p slots ≡ false → p slot ≡ false → list_any p (set slots k slot) ≡ false
any-set p [] k slot none new = none
any-set p (first ∷ rest) zero slot none new = ap (λ (b : Bool). b || list_any p rest) new ∙ (or_parts (p first) (list_any p rest) none).1
any-set p (first ∷ rest) (suc k) slot none new =
    let parts = or_parts (p first) (list_any p rest) none in
    ap (λ (b : Bool). b || list_any p (set rest k slot)) parts.0 ∙ any-set p rest k slot parts.1 new

-- a test that a list fails, each element fails
any-get : (p : Slot → Bool) (slots : List Slot) (k : ℕ) (slot : Slot) → list_any p slots ≡ false → slice_get slots k ≡ Some slot → p slot ≡ false
any-get p [] k slot none e = absurd (none-some slot e)
any-get p (first ∷ rest) zero slot none e = ap p (sym (same_Some _ _ e)) ∙ (or_parts (p first) (list_any p rest) none).0
any-get p (first ∷ rest) (suc k) slot none e = any-get p rest k slot (or_parts (p first) (list_any p rest) none).1 e

-- ---- what is not found

none_if : {X : Type 0} (b : Bool) (x : X) (later : Option X) → cond b (Some x) later ≡ None → (b ≡ false) × (later ≡ None)
none_if false x later e = (refl, e)
none_if true x later e = absurd (none-some x (sym e))

not_found-any : (j : ℕ) (slots : List Slot) (name : Name) → find_from j slots name ≡ None → list_any (has_name name) slots ≡ false
not_found-any j [] name e = refl
not_found-any j (Never ∷ rest) name e = not_found-any (j + 1) rest name e
not_found-any j (Gone ∷ rest) name e = not_found-any (j + 1) rest name e
not_found-any j (Used x ∷ rest) name e =
    let parts = none_if (same_name x.name name) _ (find_from (j + 1) rest name) e in
    ap (λ (b : Bool). b || list_any (has_name name) rest) parts.0 ∙ not_found-any (j + 1) rest name parts.1

any-not_found : (j : ℕ) (slots : List Slot) (name : Name) → list_any (has_name name) slots ≡ false → find_from j slots name ≡ None
any-not_found j [] name e = refl
any-not_found j (Never ∷ rest) name e = any-not_found (j + 1) rest name e
any-not_found j (Gone ∷ rest) name e = any-not_found (j + 1) rest name e
any-not_found j (Used x ∷ rest) name e =
    let parts = or_parts (same_name x.name name) (list_any (has_name name) rest) e in
    ap (λ (b : Bool). cond b (Some (record { slot = j; entry = x })) (find_from (j + 1) rest name)) parts.0 ∙ any-not_found (j + 1) rest name parts.1

-- ---- an entry comes into the least slot that is not used

free-above : (j m : ℕ) (slots : List Slot) → free_from j slots ≡ Some m → j ≤ m
free-above j m [] e = absurd (none-some m e)
free-above j m (Never ∷ rest) e = let is : j ≡ m = same_Some j m e in omega (arith, is)
free-above j m (Gone ∷ rest) e = let is : j ≡ m = same_Some j m e in omega (arith, is)
free-above j m (Used x ∷ rest) e = let above = free-above (j + 1) m rest e in omega (arith, above)

-- the least slot that is not used is the first, or the first is used
pub data FreeAt : ℕ → ℕ → List Slot → Type 0 where
  never : (j : ℕ) (rest : List Slot) → FreeAt j 0 (Never ∷ rest)
  gone : (j : ℕ) (rest : List Slot) → FreeAt j 0 (Gone ∷ rest)
  used : (j k : ℕ) (x : Entry) (rest : List Slot) → FreeAt (j + 1) k rest → FreeAt j (suc k) (Used x ∷ rest)

pub free-at : (j k : ℕ) (slots : List Slot) → free_from j slots ≡ Some (j + k) → FreeAt j k slots
free-at j k [] e = absurd (none-some (j + k) e)
free-at j zero (Never ∷ rest) e = never j rest
free-at j (suc k) (Never ∷ rest) e = let is : j ≡ j + suc k = same_Some j (j + suc k) e in absurd (omega (arith, is))
free-at j zero (Gone ∷ rest) e = gone j rest
free-at j (suc k) (Gone ∷ rest) e = let is : j ≡ j + suc k = same_Some j (j + suc k) e in absurd (omega (arith, is))
free-at j zero (Used x ∷ rest) e = let above = free-above (j + 1) (j + 0) rest e in absurd (omega (arith, above))
free-at j (suc k) (Used x ∷ rest) e =
    let same : j + suc k ≡ (j + 1) + k = omega arith in
    used j k x rest (free-at (j + 1) k rest (e ∙ ap (λ (n : ℕ). Some n) same))

pub free-within : {j k : ℕ} {slots : List Slot} → FreeAt j k slots → k < length slots
free-within (never j rest) = omega arith
free-within (gone j rest) = omega arith
free-within (used j k x rest h) = let within = free-within h in omega (arith, within)

pub order-added : {j k : ℕ} {slots : List Slot} (e : Entry) → FreeAt j k slots → are_in_order slots ≡ true → are_in_order (set slots k (Used e)) ≡ true
order-added e (never j rest) o = never-in_order rest o
order-added e (gone j rest) o = o
order-added e (used j k x rest h) o = order-added e h o

apart_first : (e : Entry) (j : ℕ) (rest : List Slot) → find_from j rest e.name ≡ None → are_apart rest ≡ true → are_apart (Used e ∷ rest) ≡ true
apart_first e j rest none apart = ap (λ (b : Bool). not b && are_apart rest) (not_found-any j rest e.name none) ∙ apart

apart_used : (x : Entry) (k : ℕ) (rest : List Slot) (slot : Slot) → has_name x.name slot ≡ false → (are_apart rest ≡ true → are_apart (set rest k slot) ≡ true) → are_apart (Used x ∷ rest) ≡ true → are_apart (Used x ∷ set rest k slot) ≡ true
apart_used x k rest slot new later apart =
    let parts = and_parts (not (list_any (has_name x.name) rest)) (are_apart rest) apart in
    ap (λ (b : Bool). not b && are_apart (set rest k slot)) (any-set (has_name x.name) rest k slot (not-true (list_any (has_name x.name) rest) parts.0) new) ∙ later parts.1

pub apart-added : {j k : ℕ} {slots : List Slot} (e : Entry) → FreeAt j k slots → find_from j slots e.name ≡ None → are_apart slots ≡ true → are_apart (set slots k (Used e)) ≡ true
apart-added e (never j rest) none apart = apart_first e (j + 1) rest none apart
apart-added e (gone j rest) none apart = apart_first e (j + 1) rest none apart
apart-added e (used j k x rest h) none apart =
    let parts = none_if (same_name x.name e.name) _ (find_from (j + 1) rest e.name) none in
    apart_used x k rest (Used e) (same_name-sym x.name e.name parts.0) (apart-added e h parts.1) apart

found_at : (e : Entry) (m n : ℕ) → m ≡ n → ◌≡◌ {A = Option Found} (Some (record { slot = m; entry = e })) (Some (record { slot = n; entry = e }))
found_at e m n is = ap (λ (i : ℕ). (let f : Found = record { slot = i; entry = e } in Some f)) is

-- the new entry is found
pub found-added : {j k : ℕ} {slots : List Slot} (e : Entry) → FreeAt j k slots → find_from j slots e.name ≡ None → find_from j (set slots k (Used e)) e.name ≡ Some (record { slot = j + k; entry = e })
found-added e (never j rest) none =
    ap (λ (b : Bool). cond b (Some (record { slot = j; entry = e })) (find_from (j + 1) rest e.name)) (bytes_same e.name.bytes) ∙ found_at e j (j + 0) (omega arith)
found-added e (gone j rest) none =
    ap (λ (b : Bool). cond b (Some (record { slot = j; entry = e })) (find_from (j + 1) rest e.name)) (bytes_same e.name.bytes) ∙ found_at e j (j + 0) (omega arith)
found-added e (used j k x rest h) none =
    let parts = none_if (same_name x.name e.name) _ (find_from (j + 1) rest e.name) none in
    ap (λ (b : Bool). cond b (Some (record { slot = j; entry = x })) (find_from (j + 1) (set rest k (Used e)) e.name)) parts.0 ∙ found-added e h parts.1 ∙ found_at e ((j + 1) + k) (j + suc k) (omega arith)

-- and each other name as before
pub others-added : {j k : ℕ} {slots : List Slot} (e : Entry) (name : Name) → FreeAt j k slots → same_name e.name name ≡ false → find_from j (set slots k (Used e)) name ≡ find_from j slots name
others-added e name (never j rest) other = ap (λ (b : Bool). cond b (Some (record { slot = j; entry = e })) (find_from (j + 1) rest name)) other
others-added e name (gone j rest) other = ap (λ (b : Bool). cond b (Some (record { slot = j; entry = e })) (find_from (j + 1) rest name)) other
others-added e name (used j k x rest h) other = ap (λ (o : Option Found). cond (same_name x.name name) (Some (record { slot = j; entry = x })) o) (others-added e name h other)

-- ---- an entry goes

never-get : (slots : List Slot) (k : ℕ) (e : Entry) → are_never slots ≡ true → slice_get slots k ≡ Some (Used e) → ⊥
never-get [] k e all is = none-some (Used e) is
never-get (Never ∷ rest) zero e all is = absurd (cc)
never-get (Never ∷ rest) (suc k) e all is = never-get rest k e all is
never-get (Gone ∷ rest) k e all is = true≢false (sym all)
never-get (Used x ∷ rest) k e all is = true≢false (sym all)

pub order-removed : (slots : List Slot) (k : ℕ) (e : Entry) → slice_get slots k ≡ Some (Used e) → are_in_order slots ≡ true → are_in_order (set slots k Gone) ≡ true
order-removed [] k e is o = o
order-removed (Never ∷ rest) zero e is o = absurd (cc)
order-removed (Never ∷ rest) (suc k) e is o = absurd (never-get rest k e o is)
order-removed (Gone ∷ rest) zero e is o = o
order-removed (Gone ∷ rest) (suc k) e is o = order-removed rest k e is o
order-removed (Used x ∷ rest) zero e is o = o
order-removed (Used x ∷ rest) (suc k) e is o = order-removed rest k e is o

pub apart-removed : (slots : List Slot) (k : ℕ) → are_apart slots ≡ true → are_apart (set slots k Gone) ≡ true
apart-removed [] k apart = apart
apart-removed (Never ∷ rest) zero apart = apart
apart-removed (Never ∷ rest) (suc k) apart = apart-removed rest k apart
apart-removed (Gone ∷ rest) zero apart = apart
apart-removed (Gone ∷ rest) (suc k) apart = apart-removed rest k apart
apart-removed (Used x ∷ rest) zero apart = (and_parts (not (list_any (has_name x.name) rest)) (are_apart rest) apart).1
apart-removed (Used x ∷ rest) (suc k) apart = apart_used x k rest Gone refl (apart-removed rest k) apart

-- the name is then not found
pub gone-removed : (j : ℕ) (slots : List Slot) (k : ℕ) (e : Entry) → slice_get slots k ≡ Some (Used e) → are_apart slots ≡ true → find_from j (set slots k Gone) e.name ≡ None
gone-removed j [] k e is apart = refl
gone-removed j (Never ∷ rest) zero e is apart = absurd (cc)
gone-removed j (Never ∷ rest) (suc k) e is apart = gone-removed (j + 1) rest k e is apart
gone-removed j (Gone ∷ rest) zero e is apart = absurd (cc)
gone-removed j (Gone ∷ rest) (suc k) e is apart = gone-removed (j + 1) rest k e is apart
gone-removed j (Used x ∷ rest) zero e is apart =
    let same : x ≡ e = cc in
    let parts = and_parts (not (list_any (has_name x.name) rest)) (are_apart rest) apart in
    ap (λ (y : Entry). find_from (j + 1) rest y.name) (sym same) ∙ any-not_found (j + 1) rest x.name (not-true (list_any (has_name x.name) rest) parts.0)
gone-removed j (Used x ∷ rest) (suc k) e is apart =
    let parts = and_parts (not (list_any (has_name x.name) rest)) (are_apart rest) apart in
    let other : same_name e.name x.name ≡ false = any-get (has_name x.name) rest k (Used e) (not-true (list_any (has_name x.name) rest) parts.0) is in
    ap (λ (b : Bool). cond b (Some (record { slot = j; entry = x })) (find_from (j + 1) (set rest k Gone) e.name)) (same_name-sym e.name x.name other) ∙ gone-removed (j + 1) rest k e is parts.1

-- and each other name as before
pub others-removed : (j : ℕ) (slots : List Slot) (k : ℕ) (e : Entry) (name : Name) → slice_get slots k ≡ Some (Used e) → same_name e.name name ≡ false → find_from j (set slots k Gone) name ≡ find_from j slots name
others-removed j [] k e name is other = refl
others-removed j (Never ∷ rest) zero e name is other = absurd (cc)
others-removed j (Never ∷ rest) (suc k) e name is other = others-removed (j + 1) rest k e name is other
others-removed j (Gone ∷ rest) zero e name is other = refl
others-removed j (Gone ∷ rest) (suc k) e name is other = others-removed (j + 1) rest k e name is other
others-removed j (Used x ∷ rest) zero e name is other =
    let same : x ≡ e = cc in
    sym (ap (λ (b : Bool). cond b (Some (record { slot = j; entry = x })) (find_from (j + 1) rest name)) (ap (λ (y : Entry). same_name y.name name) same ∙ other))
others-removed j (Used x ∷ rest) (suc k) e name is other = ap (λ (o : Option Found). cond (same_name x.name name) (Some (record { slot = j; entry = x })) o) (others-removed (j + 1) rest k e name is other)
