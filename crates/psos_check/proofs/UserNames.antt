-- The number of a user with a name.
use Rattle.std.proofs.Common.{◌≡◌, ◌≢◌, ℕ, ◌+◌, ◌<◌, Bool, true, false, cond, not, ltb, zero, suc, List, [], ◌∷◌, length, map, get_or, Some, refl, sym, ap, subst, ◌∙◌, arith}
use Rattle.std.specs.List.{position_or_len, AllByRecursion}
use Rattle.std.specs.Str.{bytes_eq}
use Rattle.std.proofs.lemmas.Bool.{ltb-true, lt-ltb}
use Rattle.std.proofs.lemmas.List.Sums.{position_or_len_is}
use Rattle.std.proofs.lemmas.Slice.Eq.{bytes_eq-Decides}
use Rattle.psos_text.proofs.ReadingSteps.{guard_some}
use Rattle.psos_calls.specs.Language.Script.{Script, UserScript, user_script, AreDistinct, IsWellFormed}
use Rattle.psos_check.specs.Reading.{user_of}

-- ---- places in lists

passes_case : {X : Type 0} (p : X → Bool) (x : X) (xs : List X) (d : X) (n : ℕ) (t : Bool) → p x ≡ t → (n < length xs → p (get_or xs n d) ≡ true) → cond (not t) (1 + n) 0 < length (x ∷ xs)
    → p (get_or (x ∷ xs) (cond (not t) (1 + n) 0) d) ≡ true
passes_case p x xs d n true e h lt = e
passes_case p x xs d n false e h lt = ap (λ (k : ℕ). p (get_or (x ∷ xs) k d)) (let k : 1 + n ≡ suc n = omega arith in k) ∙ h (omega (arith, lt))

-- the first place that passes passes
pub passes_there : {X : Type 0} (p : X → Bool) (xs : List X) (d : X) → position_or_len p xs < length xs → p (get_or xs (position_or_len p xs) d) ≡ true
passes_there p [] d lt = absurd (omega (arith, lt))
passes_there p (x ∷ xs) d lt = passes_case p x xs d (position_or_len p xs) (p x) refl (passes_there p xs d) lt

-- what holds of each element holds at each place
pub all_at : {X : Type 0} (P : X → Type 0) (xs : List X) (i : ℕ) (d : X) → AllByRecursion P xs → i < length xs → P (get_or xs i d)
all_at P [] i d h lt = absurd (omega (arith, lt))
all_at P (x ∷ xs) zero d h lt = h.0
all_at P (x ∷ xs) (suc i) d h lt = all_at P xs i d h.1 (omega (arith, lt))

-- ---- names

-- who stands behind the last user
abbrev pub nobody : UserScript
nobody = record { name = []; phases = [] }

abbrev pub names : List UserScript → List (List ℕ)
names users = map (λ (u : UserScript). u.name) users

names_lack : (name : List ℕ) (users : List UserScript) (k : ℕ) → AllByRecursion (λ other. other ≢ name) (names users) → k < length users → (get_or users k nobody).name ≢ name
names_lack name [] k h lt = absurd (omega (arith, lt))
names_lack name (u ∷ us) zero h lt = h.0
names_lack name (u ∷ us) (suc k) h lt = names_lack name us k h.1 (omega (arith, lt))

-- two users of distinct names
apart : (users : List UserScript) (i k : ℕ) → AreDistinct (names users) → i < k → k < length users → (get_or users i nobody).name ≢ (get_or users k nobody).name
apart [] i k h less lt = absurd (omega (arith, lt))
apart (u ∷ us) zero zero h less lt = absurd (omega (arith, less))
apart (u ∷ us) zero (suc k) h less lt = λ e. names_lack u.name us k h.0 (omega (arith, lt)) (sym e)
apart (u ∷ us) (suc i) zero h less lt = absurd (omega (arith, less))
apart (u ∷ us) (suc i) (suc k) h less lt = apart us i k h.1 (omega (arith, less)) (omega (arith, lt))

-- ---- the number of a name

pub user_takes : (s : Script) (name : List ℕ) (u : ℕ) → user_of s name ≡ Some u → (u < length s.users) × ((user_script s u).name ≡ name)
unfolding user_of
user_takes s name u e =
    let p = λ (x : UserScript). bytes_eq x.name name in
    let g = guard_some (ltb (position_or_len p s.users) (length s.users)) (position_or_len p s.users) u e in
    let lt : position_or_len p s.users < length s.users = ltb-true (position_or_len p s.users) (length s.users) g.0 in
    let here = passes_there p s.users nobody lt in
    let P : ℕ → Type 0 = λ n. (n < length s.users) × ((user_script s n).name ≡ name) in
    subst P g.1 (lt, (bytes_eq-Decides (get_or s.users (position_or_len p s.users) nobody).name name).0 here)

not_true : (t : Bool) → (t ≡ true → ⊥) → t ≡ false
not_true true h = absurd (h refl)
not_true false h = refl

pub user_again : (s : Script) (u : ℕ) → IsWellFormed s → u < length s.users → user_of s (user_script s u).name ≡ Some u
unfolding user_of
user_again s u w lt =
    let name = (user_script s u).name in
    let p = λ (x : UserScript). bytes_eq x.name name in
    let at : position_or_len p s.users ≡ u =
    position_or_len_is p s.users u nobody (omega (arith, lt))
    (λ k less. not_true (p (get_or s.users k nobody)) (λ t. apart s.users k u w.names less lt ((bytes_eq-Decides (get_or s.users k nobody).name name).0 t)))
    (λ _. (bytes_eq-Decides name name).1 refl) in
    rw (at, lt-ltb u (length s.users) lt) refl
