-- The slots of a directory, page by page.
use Rattle.std.proofs.Common.{◌≡◌, ℕ, zero, suc, ◌+◌, ◌*◌, Bool, true, false, cond, List, [], ◌∷◌, ◌++◌, length, Some, refl, sym, ap, subst, ◌∙◌, arith}
use Rattle.std.specs.Prelude.{option_map}
use Rattle.std.proofs.lemmas.Bool.{true≢false}
use Rattle.std.proofs.lemmas.Option.{same_Some, none-some}
use Rattle.psos_text.specs.declared.name.Name.{Name}
use Rattle.psos_words.specs.declared.word.Word.{Word}
use Rattle.psos_words.specs.declared.word.Word.TheVariants.{Data}
use Rattle.psos_words.specs.Words.{zeros}
use Rattle.psos_words.specs.Directory.{Slot, Never, Gone, Used, slots_of, same_name, are_never, are_in_order, find_from, free_from}
use Rattle.psos_dirrep.specs.Pages.{or_else, moved}
use Rattle.psos_dirrep.proofs.SlotSearch.{order-later}
use Rattle.psos_dirrep.proofs.Slots.{by_slot, slots-split, slots-cons}

-- ---- the slots of two lists of words

-- the slots of the first and of the second
pub record Halves (a b : List Word) (n : ℕ) (all : List Slot) : Type 0 where
  pub front : List Slot
  pub back : List Slot
  pub first : slots_of a ≡ Some front
  pub second : slots_of b ≡ Some back
  pub long : length front ≡ n
  pub is : all ≡ front ++ back

pub halves : (n : ℕ) (a b : List Word) (all : List Slot) → length a ≡ 4 * n → slots_of (a ++ b) ≡ Some all → Halves a b n all
unfolding slots_of
halves zero [] b all long e = record { front = []; back = all; first = refl; second = e; long = refl; is = refl }
halves (suc n) [] b all long e = absurd (omega (arith, long))
halves n (x ∷ []) b all long e = absurd (omega (arith, long))
halves n (x ∷ y ∷ []) b all long e = absurd (omega (arith, long))
halves n (x ∷ y ∷ z ∷ []) b all long e = absurd (omega (arith, long))
halves zero (x ∷ y ∷ z ∷ w ∷ a) b all long e = absurd (omega (arith, long))
halves (suc n) (x ∷ y ∷ z ∷ w ∷ a) b all long e =
    let s = slots-split x y z w (a ++ b) all e in
    let h = halves n a b s.later (omega (arith, long)) s.after in
    record {
      front = s.slot ∷ h.front;
      back = h.back;
      first = slots-cons x y z w a s.slot h.front s.here h.first;
      second = h.second;
      long = let one = h.long in omega (arith, one);
      is = s.is ∙ ap (λ (l : List Slot). s.slot ∷ l) h.is;
    }

-- ---- words of data 0

pub zeros-never : (n : ℕ) (slots : List Slot) → slots_of (zeros n) ≡ Some slots → are_never slots ≡ true
unfolding slots_of
zeros-never zero slots e = subst (λ (l : List Slot). are_never l ≡ true) (same_Some _ _ e) refl
zeros-never (suc zero) slots e = absurd (none-some slots e)
zeros-never (suc (suc zero)) slots e = absurd (none-some slots e)
zeros-never (suc (suc (suc zero))) slots e = absurd (none-some slots e)
zeros-never (suc (suc (suc (suc n)))) slots e =
    let s = slots-split (Data 0) (Data 0) (Data 0) (Data 0) (zeros n) slots e in
    let first : Never ≡ s.slot = same_Some Never s.slot s.here in
    ap are_never s.is ∙ ap (λ (x : Slot). are_never (x ∷ s.later)) (sym first) ∙ zeros-never n s.later s.after

pub never-zeros : (words : List Word) (slots : List Slot) → slots_of words ≡ Some slots → are_never slots ≡ true → words ≡ zeros (length words)
unfolding slots_of
never-zeros [] slots e all = refl
never-zeros (a ∷ []) slots e all = absurd (none-some slots e)
never-zeros (a ∷ b ∷ []) slots e all = absurd (none-some slots e)
never-zeros (a ∷ b ∷ c ∷ []) slots e all = absurd (none-some slots e)
never-zeros (a ∷ b ∷ c ∷ d ∷ rest) slots e all =
    let s = slots-split a b c d rest slots e in
    let P : Word → Word → Word → Word → Slot → Type 0 = λ a b c d slot. are_never (slot ∷ s.later) ≡ true → (a ∷ b ∷ c ∷ d ∷ rest) ≡ zeros (length (a ∷ b ∷ c ∷ d ∷ rest)) in
    by_slot P
    (λ never. ap (λ (l : List Word). Data 0 ∷ Data 0 ∷ Data 0 ∷ Data 0 ∷ l) (never-zeros rest s.later s.after never))
    (λ never. absurd (true≢false (sym never)))
    (λ h l cap kept filled never. absurd (true≢false (sym never)))
    a b c d s.slot s.here (ap are_never (sym s.is) ∙ all)

-- ---- two lists of slots

pub never-append : (a b : List Slot) → are_never (a ++ b) ≡ true → are_never b ≡ true
never-append [] b e = e
never-append (Never ∷ a) b e = never-append a b e
never-append (Gone ∷ a) b e = absurd (true≢false (sym e))
never-append (Used x ∷ a) b e = absurd (true≢false (sym e))

pub never-front : (a b : List Slot) → are_never (a ++ b) ≡ true → are_never a ≡ true
never-front [] b e = refl
never-front (Never ∷ a) b e = never-front a b e
never-front (Gone ∷ a) b e = absurd (true≢false (sym e))
never-front (Used x ∷ a) b e = absurd (true≢false (sym e))

pub order-front : (a b : List Slot) → are_in_order (a ++ b) ≡ true → are_in_order a ≡ true
order-front [] b e = refl
order-front (Never ∷ a) b e = never-front a b e
order-front (Gone ∷ a) b e = order-front a b e
order-front (Used x ∷ a) b e = order-front a b e

pub order-back : (a b : List Slot) → are_in_order (a ++ b) ≡ true → are_in_order b ≡ true
order-back [] b e = e
order-back (x ∷ a) b e = order-back a b (order-later x (a ++ b) e)

pub find-append : (k : ℕ) (a b : List Slot) (name : Name) → find_from k (a ++ b) name ≡ or_else (find_from k a name) (find_from (k + length a) b name)
find-append k [] b name = ap (λ (n : ℕ). find_from n b name) {x = k} {y = k + 0} (omega arith)
find-append k (Never ∷ a) b name = find-append (k + 1) a b name ∙ ap (λ (n : ℕ). or_else (find_from (k + 1) a name) (find_from n b name)) {x = (k + 1) + length a} {y = k + suc (length a)} (omega arith)
find-append k (Gone ∷ a) b name = find-append (k + 1) a b name ∙ ap (λ (n : ℕ). or_else (find_from (k + 1) a name) (find_from n b name)) {x = (k + 1) + length a} {y = k + suc (length a)} (omega arith)
find-append k (Used x ∷ a) b name =
    by (same_name x.name name) (find-append (k + 1) a b name ∙ ap (λ (n : ℕ). or_else (find_from (k + 1) a name) (find_from n b name)) {x = (k + 1) + length a} {y = k + suc (length a)} (omega arith))
  where
    by : (t : Bool) → find_from (k + 1) (a ++ b) name ≡ or_else (find_from (k + 1) a name) (find_from (k + suc (length a)) b name)
        → cond t (Some (record { slot = k; entry = x })) (find_from (k + 1) (a ++ b) name) ≡ or_else (cond t (Some (record { slot = k; entry = x })) (find_from (k + 1) a name)) (find_from (k + suc (length a)) b name)
    by true later = refl
    by false later = later

pub free-append : (k : ℕ) (a b : List Slot) → free_from k (a ++ b) ≡ or_else (free_from k a) (free_from (k + length a) b)
free-append k [] b = ap (λ (n : ℕ). free_from n b) {x = k} {y = k + 0} (omega arith)
free-append k (Never ∷ a) b = refl
free-append k (Gone ∷ a) b = refl
free-append k (Used x ∷ a) b = free-append (k + 1) a b ∙ ap (λ (n : ℕ). or_else (free_from (k + 1) a) (free_from n b)) {x = (k + 1) + length a} {y = k + suc (length a)} (omega arith)

-- a search that begins later finds the same later
pub find-moved : (j k : ℕ) (slots : List Slot) (name : Name) → find_from (j + k) slots name ≡ option_map (moved j) (find_from k slots name)
find-moved j k [] name = refl
find-moved j k (Never ∷ rest) name = ap (λ (n : ℕ). find_from n rest name) {x = (j + k) + 1} {y = j + (k + 1)} (omega arith) ∙ find-moved j (k + 1) rest name
find-moved j k (Gone ∷ rest) name = ap (λ (n : ℕ). find_from n rest name) {x = (j + k) + 1} {y = j + (k + 1)} (omega arith) ∙ find-moved j (k + 1) rest name
find-moved j k (Used x ∷ rest) name =
    by (same_name x.name name) (ap (λ (n : ℕ). find_from n rest name) {x = (j + k) + 1} {y = j + (k + 1)} (omega arith) ∙ find-moved j (k + 1) rest name)
  where
    by : (t : Bool) → find_from ((j + k) + 1) rest name ≡ option_map (moved j) (find_from (k + 1) rest name)
        → cond t (Some (record { slot = j + k; entry = x })) (find_from ((j + k) + 1) rest name) ≡ option_map (moved j) (cond t (Some (record { slot = k; entry = x })) (find_from (k + 1) rest name))
    by true later = refl
    by false later = later

pub free-moved : (j k : ℕ) (slots : List Slot) → free_from (j + k) slots ≡ option_map (λ i. j + i) (free_from k slots)
free-moved j k [] = refl
free-moved j k (Never ∷ rest) = refl
free-moved j k (Gone ∷ rest) = refl
free-moved j k (Used x ∷ rest) = ap (λ (n : ℕ). free_from n rest) {x = (j + k) + 1} {y = j + (k + 1)} (omega arith) ∙ free-moved j (k + 1) rest
